pub mod Automaton
pub mod Searches
pub mod Trust
pub mod Nesting
pub mod Followed
pub mod Touched
pub mod Chunks
