pub mod Bits
pub mod Division
pub mod Order
pub mod Shifts
pub mod Word
pub mod Wrapping
