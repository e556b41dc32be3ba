pub mod Units
pub mod Refuses
pub mod Laws
pub mod Told
