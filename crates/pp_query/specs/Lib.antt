pub mod Reply
pub mod Question
pub mod Found
pub mod Proofs
pub mod Demanded
