pub mod Spelled
pub mod Refused
