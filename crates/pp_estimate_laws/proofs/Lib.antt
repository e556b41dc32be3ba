pub mod Numbers
pub mod Sizes
pub mod Growth
mod Patterns
pub mod Visits
pub mod Frames
pub mod Estimates
