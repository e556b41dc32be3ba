pub mod TypedCalls
pub mod Groups
