pub mod Arguments
pub mod Cut
pub mod Pending
