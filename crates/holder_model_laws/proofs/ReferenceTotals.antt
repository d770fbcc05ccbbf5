pub mod Strongs
pub mod Objects
pub mod Grown
pub mod Kept
pub mod Left
