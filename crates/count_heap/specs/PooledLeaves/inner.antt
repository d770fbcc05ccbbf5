pub mod Layout
pub mod Stacks
