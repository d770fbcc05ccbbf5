pub mod Names
pub mod Reaching
