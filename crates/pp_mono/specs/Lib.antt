pub mod Concrete
pub mod Laws
pub mod Steps
