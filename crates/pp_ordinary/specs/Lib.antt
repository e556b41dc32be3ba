pub mod Laws
pub mod Ordinary
pub mod Spelled
