pub mod Paths
pub mod Groups
pub mod Marks
pub mod Tables
pub mod Decided
