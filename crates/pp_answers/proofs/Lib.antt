pub mod Once
pub mod Excluded
pub mod Counts
mod Depending
pub mod Words
pub mod Lines
pub mod Alike
pub mod Meaning
pub mod Heads
pub mod Statuses
pub mod Claimed
pub mod Readings
pub mod Texts
pub mod Made
mod Seeds
