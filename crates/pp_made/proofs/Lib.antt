mod Turns
mod Lengths
