pub mod Outside
pub mod Each
pub mod Forms
pub mod Post
pub mod Numbering
