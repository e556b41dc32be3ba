pub mod Getters
pub mod Taken
