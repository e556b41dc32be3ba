pub mod Answer
pub mod Invariant
pub mod Step
pub mod Reading
pub mod Order
