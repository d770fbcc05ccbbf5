pub mod Heads
pub mod Laws
