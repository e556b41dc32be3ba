pub mod Lines
pub mod Asked
pub mod Verdicts
pub mod Ranges
mod Shared
