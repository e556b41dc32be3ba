pub mod Grouped
pub mod Mapped
pub mod Owners
pub mod Texts
