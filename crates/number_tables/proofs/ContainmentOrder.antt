pub mod Chaining
pub mod Settled
pub mod RingLemmas
