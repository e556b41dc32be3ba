pub mod Constraint
pub mod Matrix
pub mod Split
pub mod Cover
