pub mod BodyFaults
pub mod Faults
pub mod Laws
