mod Ordered
mod Listings
pub mod Fills
pub mod Tables
mod Slots
mod Refill
mod Refunction
mod Slotted
mod BareSorts
mod BareSites
mod Needs
mod Numbering
pub mod Whole
