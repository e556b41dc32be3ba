pub mod Growing
pub mod Numbers
pub mod Sums
pub mod Orders
pub mod Signs
pub mod ByDigit
pub mod Chosen
