pub mod Full
pub mod FullParts
pub mod FullTree
pub mod AnyValue
