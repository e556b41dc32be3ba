pub mod Ends
pub mod Equal
pub mod Fitting
pub mod Putting
