pub mod Table
pub mod Checking
pub mod LogText
pub mod Fault
pub mod Scan
pub mod Line
