pub mod Firsts
pub mod Undone
pub mod Valid
pub mod Reports
