pub mod Among
pub mod FaultsOf
pub mod Least
pub mod Order
pub mod Reported
pub mod Short
