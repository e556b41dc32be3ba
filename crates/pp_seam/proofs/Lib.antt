pub mod Counted
pub mod Fronts
pub mod Known
pub mod Places
