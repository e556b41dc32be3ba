pub mod Measure
pub mod Laws
