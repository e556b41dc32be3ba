pub mod Bytes
pub mod Declared
pub mod Left
pub mod Names
