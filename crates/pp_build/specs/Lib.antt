pub mod Unknown
pub mod Registers
pub mod Performed
pub mod Words
pub mod Built
pub mod Followed
pub mod StepGates
