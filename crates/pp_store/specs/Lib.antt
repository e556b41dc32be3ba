pub mod Values
pub mod Nodes
pub mod Sizes
pub mod Pairs
pub mod Marks
pub mod Work
