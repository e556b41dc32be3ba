pub mod Digits
pub mod Exact
pub mod Layers
pub mod Visits
pub mod Written
pub mod Answer
