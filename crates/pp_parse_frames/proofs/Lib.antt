pub mod Finished
mod Late
