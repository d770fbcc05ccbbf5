pub mod Places
pub mod Gathered
pub mod ByParts
pub mod Ordered
