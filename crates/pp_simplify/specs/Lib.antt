pub mod Operands
pub mod Names
pub mod Literals
pub mod Folded
pub mod Marks
pub mod Pruned
