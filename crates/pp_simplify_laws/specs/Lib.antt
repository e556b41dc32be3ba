pub mod Fully
pub mod Kept
pub mod Laws
