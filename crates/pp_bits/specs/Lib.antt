pub mod Number
pub mod Repeated
pub mod Inputs
pub mod Bitwise
pub mod Laws
