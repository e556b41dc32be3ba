pub mod Asked
pub mod Entries
pub mod Faults
pub mod Pieces
pub mod Reads
pub mod Shelved
pub mod Stored
