pub mod Resolved
pub mod inner
