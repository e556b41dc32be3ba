pub mod Lists
pub mod Put
pub mod Listed
pub mod Sorts
pub mod Mentions
pub mod Closed
pub mod Proper
