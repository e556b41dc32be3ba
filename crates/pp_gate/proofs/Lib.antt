pub mod Places
pub mod Kept
pub mod Agreement
pub mod Extension
pub mod Growing
pub mod Clausal
pub mod Marking
pub mod Cones
