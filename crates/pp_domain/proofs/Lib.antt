pub mod Composition
pub mod Symbols
pub mod Numbering
pub mod AnySort
pub mod PlainSymbols
pub mod UnknownSymbols
pub mod ShortWords
