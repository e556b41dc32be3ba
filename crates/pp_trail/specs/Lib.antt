pub mod Trail
pub mod Marks
