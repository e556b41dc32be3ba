pub mod LooksBefore
pub mod NamedGuess
pub mod FailingGuess
