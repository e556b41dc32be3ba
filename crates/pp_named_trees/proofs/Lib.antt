pub mod Lawful
pub mod Keeping
pub mod Parts
pub mod Answering
pub mod Reading
