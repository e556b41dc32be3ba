pub mod Command
pub mod Number
pub mod Order
pub mod Task
pub mod Line
pub mod Told
