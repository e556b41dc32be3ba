pub mod Limits
pub mod Fault
pub mod Place
pub mod Table
