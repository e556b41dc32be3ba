pub mod Sample
pub mod Kept
