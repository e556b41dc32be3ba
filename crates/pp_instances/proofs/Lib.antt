pub mod Mentioned
pub mod Fed
pub mod Kept
pub mod Grown
pub mod Pieces
pub mod Decls
