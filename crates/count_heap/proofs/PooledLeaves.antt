pub mod Stacks
pub mod ListParts
pub mod Freed
pub mod Pools
