pub mod Cones
pub mod Naming
pub mod Stating
pub mod Turns
mod Marking
mod Replacing
