pub mod Compared
pub mod EqualTree
pub mod EqualAnswer
pub mod Searching
pub mod SearchTree
pub mod BelowAnswer
