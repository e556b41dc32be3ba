pub mod Broken
pub mod Computed
pub mod Places
pub mod Sizes
