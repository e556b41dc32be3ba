pub mod Ranks
pub mod Adding
pub mod Chosen
pub mod MergedCtors
pub mod MergedSides
pub mod MergedTree
pub mod Sides
pub mod MergeAnswer
