pub mod Unique
pub mod Faults
pub mod FaultTypes
pub mod FaultExprs
pub mod FaultBodies
pub mod FaultModes
pub mod FaultItems
pub mod Sized
pub mod SizeTypes
pub mod SizePatterns
mod SizeBlocks
mod SizeOperands
pub mod SizeExprs
mod SizeClaims
mod SizeContracts
pub mod SizeBodies
mod SizeImports
mod SizeHeads
pub mod SizeDecls
pub mod Sizes
mod UsedKinds
pub mod Unused
