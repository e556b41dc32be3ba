mod ArgsOpen
mod Semicolons
