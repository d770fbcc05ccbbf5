pub mod Chains
pub mod Facts
pub mod Steps
pub mod inner
