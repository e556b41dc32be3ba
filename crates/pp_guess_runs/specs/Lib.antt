pub mod Answers
pub mod Guess
pub mod Laws
