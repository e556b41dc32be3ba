pub mod Contents
pub mod Fitting
pub mod FreshContents
pub mod Known
pub mod Kept
