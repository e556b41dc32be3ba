pub mod Within
pub mod Forms
pub mod Matches
pub mod Exprs
pub mod Solve
pub mod Laws
