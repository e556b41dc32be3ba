pub mod Readings
pub mod Sums
pub mod Moves
pub mod Digits
pub mod Quotients
