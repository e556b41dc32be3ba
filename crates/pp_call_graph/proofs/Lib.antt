pub mod Conditions
pub mod Numberless
pub mod Translated
pub mod Table
pub mod Grouped
