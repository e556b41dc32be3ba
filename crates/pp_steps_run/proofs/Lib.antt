pub mod Pieces
pub mod Choices
pub mod Lasting
mod Operators
pub mod Patterns
mod Rights
mod Strict
mod Branches
mod Skips
pub mod Lists
mod Deciding
mod Cases
pub mod Exprs
pub mod Measures
pub mod Calls
pub mod Runs
pub mod Laws
