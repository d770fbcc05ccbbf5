pub mod OpenScopes
pub mod Definitions
pub mod Nones
pub mod Facts
