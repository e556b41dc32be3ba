pub mod Fault
pub mod Laws
pub mod Literals
pub mod Offsets
pub mod Ranges
pub mod Sites
pub mod Sizes
pub mod Typing
