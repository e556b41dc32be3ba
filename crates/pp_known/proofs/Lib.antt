pub mod Places
pub mod Listed
pub mod Known
pub mod Ready
pub mod Ranges
pub mod Program
