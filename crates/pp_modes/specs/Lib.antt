pub mod Codes
pub mod Responses
pub mod Runs
pub mod Lists
pub mod Verdicts
pub mod Answers
