pub mod Literal
pub mod Clause
pub mod Bound
pub mod Assignment
pub mod Derivation
pub mod Log
pub mod New
pub mod Laws
