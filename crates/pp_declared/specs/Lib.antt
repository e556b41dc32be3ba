pub mod Counts
pub mod Declare
pub mod Declares
pub mod Fault
pub mod Laws
pub mod Listed
pub mod Shown
pub mod WellFormed
