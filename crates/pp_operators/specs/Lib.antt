pub mod Classes
pub mod Gates
pub mod Sorts
