pub mod Outcome
pub mod Settling
pub mod Union
pub mod Laws
pub mod Numbers
