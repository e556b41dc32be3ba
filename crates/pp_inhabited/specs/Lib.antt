pub mod Laws
pub mod Settled
pub mod Table
pub mod Value
