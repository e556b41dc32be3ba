mod Naming
mod FirstTurns
mod OneTurn
mod EndLists
mod Passing
