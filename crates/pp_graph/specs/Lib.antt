pub mod Reaches
pub mod Rows
pub mod Fronts
