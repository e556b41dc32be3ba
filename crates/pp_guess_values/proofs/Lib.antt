mod Arguments
pub mod Defaults
pub mod Failing
mod Listing
mod OwnFields
pub mod Looking
pub mod Named
