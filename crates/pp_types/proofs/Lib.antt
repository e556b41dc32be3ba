pub mod Checked
pub mod EachDef
pub mod Functions
pub mod Refusals
pub mod Refused
