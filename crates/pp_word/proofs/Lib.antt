pub mod Ranges
pub mod Wraps
pub mod Quotients
pub mod Moves
pub mod Digits
