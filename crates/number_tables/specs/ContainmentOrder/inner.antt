pub mod Order
pub mod Search
pub mod Settling
pub mod Ranks
pub mod Outcome
