pub mod Equal
pub mod Below
