pub mod Performing
pub mod inner
