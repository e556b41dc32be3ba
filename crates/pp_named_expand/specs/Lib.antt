pub mod Entered
pub mod Touched
pub mod Prepared
pub mod Looking
pub mod Reads
pub mod Constructed
