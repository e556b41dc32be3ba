pub mod Same
pub mod Decides
pub mod Uses
pub mod Closure
pub mod Growth
pub mod Names
pub mod Order
pub mod Laws
