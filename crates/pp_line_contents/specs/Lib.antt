pub mod Lines
pub mod Contents
pub mod Reports
pub mod Laws
