pub mod Automata
pub mod Shared
pub mod Chunks
pub mod Groups
pub mod Reported
