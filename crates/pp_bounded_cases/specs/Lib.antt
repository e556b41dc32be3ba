pub mod Pair
pub mod Registers
