pub mod Powers
pub mod Moved
pub mod Places
pub mod Stages
pub mod Signs
