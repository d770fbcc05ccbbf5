pub mod Facts
pub mod Places
pub mod Switches
pub mod Edges
pub mod Functions
