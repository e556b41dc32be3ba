pub mod Cuts
pub mod Products
pub mod Quotients
