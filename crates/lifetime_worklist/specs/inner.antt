pub mod Lifetimes
pub mod Laws
pub mod Runs
