pub mod DemandedGuess
