pub mod Gate
pub mod Circuit
pub mod Growth
pub mod Laws
pub mod Cone
pub mod Marks
pub mod Completion
pub mod Clauses
