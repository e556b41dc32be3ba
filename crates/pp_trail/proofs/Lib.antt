pub mod Places
pub mod Marking
pub mod Negated
pub mod Growing
pub mod Truths
pub mod Sound
