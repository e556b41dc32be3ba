pub mod Seen
pub mod Reached
pub mod Conflict
