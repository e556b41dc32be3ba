pub mod Counterexamples
mod Growing
