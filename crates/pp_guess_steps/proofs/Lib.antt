mod Members
pub mod FuelsAgree
pub mod ByValues
pub mod RunsKeep
mod OpenCalls
mod OwnCalls
pub mod Ties
mod Pairs
pub mod Rounds
pub mod Conditions
pub mod ClosedPatterns
pub mod ClosedExprs
pub mod ClosedRounds
pub mod ClosedAlways
pub mod CallsPaired
pub mod OwnFrame
pub mod Failures
mod Supposed
mod ButCalls
mod PairsBack
pub mod StandingAgree
mod TiesBack
mod OwnWorld
mod CallsTrue
mod AllTrue
mod Answered
pub mod Reading
pub mod RoundsRead
pub mod Labels
mod OperatorSorts
pub mod Sorting
pub mod RoundsSorted
pub mod SolvedSorted
pub mod WorldSorts
mod NeverStuck
mod SortedCalls
mod OwnTable
pub mod Existing
pub mod SortedValues
pub mod Laws
pub mod SecondHalf
