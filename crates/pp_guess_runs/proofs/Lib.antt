pub mod Truth
pub mod Tables
pub mod OwnCalls
pub mod Sorted
