mod Roots
mod Runs
mod Spelled
mod Stepped
