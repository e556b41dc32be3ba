pub mod Written
pub mod Sites
pub mod Guessed
