pub mod Sorted
pub mod Made
pub mod Listing
pub mod Laws
