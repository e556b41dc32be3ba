pub mod Folded
mod Highest
mod Heights
mod Deep
