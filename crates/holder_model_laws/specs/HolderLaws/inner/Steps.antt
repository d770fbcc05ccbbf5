pub mod Ways
pub mod Stacks
