pub mod Lists
pub mod Kept
pub mod PlaceCells
pub mod Writes
