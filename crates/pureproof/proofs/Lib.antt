pub mod Showing
pub mod Ending
pub mod Held
pub mod Reading
pub mod Made
