pub mod Names
pub mod Chains
