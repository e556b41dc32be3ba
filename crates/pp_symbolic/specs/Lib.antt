pub mod Frame
pub mod Evaluated
pub mod Guessed
pub mod Naming
