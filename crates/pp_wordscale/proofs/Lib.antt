pub mod Distances
pub mod Magnitudes
