pub mod Answers
pub mod Spelled
