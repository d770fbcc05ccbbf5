pub mod Objects
pub mod Kept
pub mod Allocating
pub mod Answers
pub mod Written
pub mod Laws
