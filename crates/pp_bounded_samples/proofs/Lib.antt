pub mod SampleTable
pub mod Sizes
pub mod Keeping
pub mod Going
pub mod FieldReading
pub mod Symbols
