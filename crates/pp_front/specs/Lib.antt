pub mod Programs
pub mod Refuses
