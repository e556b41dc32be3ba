pub mod Bodies
pub mod Elab
pub mod Operators
pub mod Scope
pub mod Shapes
pub mod Typing
pub mod Written
