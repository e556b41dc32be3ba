pub mod Values
pub mod Numbers
pub mod Results
pub mod SymbolSorts
pub mod OneOperand
pub mod TwoOperands
pub mod Descents
