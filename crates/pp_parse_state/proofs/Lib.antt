mod Holes
pub mod Stacked
