pub mod Budget
pub mod Operated
pub mod Plain
