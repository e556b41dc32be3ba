pub mod IsSort
pub mod Laws
pub mod SortOf
pub mod Words
