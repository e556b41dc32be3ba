pub mod Functions
pub mod Kinds
