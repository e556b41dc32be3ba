pub mod Lists
pub mod Rooms
pub mod Places
pub mod Types
pub mod Agree
pub mod Values
pub mod Inhabited
pub mod IsTable
