pub mod Aligned
pub mod Pieces
pub mod Scopes
mod Forms
pub mod Lists
pub mod Operators
pub mod PatternLevels
mod Patterns
pub mod ExprLevels
pub mod Cases
mod Exprs
pub mod Tables
mod Measures
pub mod Calls
mod Runs
pub mod Heights
mod Sizes
mod Deep
pub mod Laws
