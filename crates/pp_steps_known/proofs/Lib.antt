mod Given
mod Fitting
mod Forms
mod Matches
mod Exprs
mod Measures
mod Calls
pub mod Laws
