pub mod Tests
pub mod OrderTests
pub mod Condition
pub mod Levels
