pub mod Decides
pub mod Automaton
pub mod Reads
pub mod Runs
