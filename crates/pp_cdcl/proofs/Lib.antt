pub mod Closed
pub mod Logs
pub mod Over
pub mod Kept
pub mod Learning
pub mod Reading
pub mod Moves
