pub mod Find
pub mod Places
pub mod Reserved
