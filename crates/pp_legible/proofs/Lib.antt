pub mod Unlike
pub mod Ctors
pub mod Functions
pub mod Places
pub mod Classes
pub mod Named
pub mod Law
pub mod Printed
