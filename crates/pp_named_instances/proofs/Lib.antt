pub mod SameTests
pub mod ContentTests
pub mod OrderLoops
pub mod Same
pub mod Ordering
pub mod Levelling
pub mod LevelLoops
pub mod Conditions
