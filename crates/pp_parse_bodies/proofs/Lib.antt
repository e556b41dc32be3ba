mod Claims
mod Tuples
