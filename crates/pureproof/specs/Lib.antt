pub mod Fetched
pub mod Dues
pub mod Shown
pub mod Ends
