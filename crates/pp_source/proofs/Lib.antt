pub mod Excluded
pub mod Lines
