pub mod Count
pub mod Height
pub mod Offsets
pub mod Plain
pub mod Roots
pub mod Shown
