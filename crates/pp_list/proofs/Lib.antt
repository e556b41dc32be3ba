pub mod Integers
pub mod Joined
pub mod Lists
pub mod Numbers
pub mod With
