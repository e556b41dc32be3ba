pub mod Facts
pub mod Valuation
pub mod Keeps
pub mod Order
pub mod Steps
pub mod Sums
pub mod Calls
pub mod Refuted
