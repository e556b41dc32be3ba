pub mod Answers
pub mod Claims
pub mod Readings
pub mod Laws
