pub mod Ends
pub mod GuessesAlike
pub mod Repeated
pub mod RoundEnds
pub mod ProofEnds
mod Failures
mod KnownSizes
pub mod Written
mod GivenUp
mod Others
mod Proving
mod Fronted
