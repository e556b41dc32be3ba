mod Arguments
mod Conjunction
mod Evaluated
mod GuessArguments
mod GuessBuilt
mod GuessFollows
pub mod GuessFrame
mod GuessWords
mod WordRegisters
mod FlatFields
mod GuessGates
mod Names
mod Owners
mod RunFrame
mod Ready
mod Simplified
mod Whole
