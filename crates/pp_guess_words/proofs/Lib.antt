pub mod WordExprs
pub mod WordFunctions
pub mod WordSteps
pub mod WordSorts
pub mod Failing
pub mod ReadValues
pub mod ReadGuesses
