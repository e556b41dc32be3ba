pub mod Lists
pub mod Watching
pub mod Looking
pub mod Attaching
