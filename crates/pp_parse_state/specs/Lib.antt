pub mod Parts
pub mod Shown
pub mod Words
pub mod Joining
pub mod Values
