pub mod Counting
pub mod Datatypes
pub mod Few
pub mod Made
