pub mod Sound
pub mod Counterexample
