pub mod BodyStands
mod CallStands
pub mod Complete
pub mod Faulty
pub mod Functions
mod PatternStands
pub mod Patterns
pub mod Sound
pub mod Stands
pub mod Steps
pub mod WrittenSorts
