pub mod FirstBad
pub mod Places
pub mod Tables
