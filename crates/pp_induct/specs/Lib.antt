pub mod Supported
pub mod Verdicts
pub mod Concluding
pub mod Reports
pub mod Laws
