pub mod Expected
pub mod Found
