mod Forms
mod Heights
mod Pruned
mod Computed
mod Folds
mod Stays
mod FoldedValues
mod FoldedKnown
mod FoldedSorts
mod Lower
mod FoldedHeights
pub mod FoldLaws
pub mod Laws
pub mod Following
