pub mod Settled
pub mod Broken
