pub mod State
pub mod See
pub mod Heads
pub mod Left
pub mod Moves
pub mod Claims
