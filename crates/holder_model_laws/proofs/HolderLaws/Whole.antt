pub mod Lists
pub mod CellNames
pub mod Keeping
