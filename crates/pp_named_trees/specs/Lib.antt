pub mod Kept
pub mod Arena
pub mod Parts
pub mod Holding
pub mod Instances
pub mod Found
pub mod Meaning
pub mod Laws
