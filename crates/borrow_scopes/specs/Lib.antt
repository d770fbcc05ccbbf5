pub mod Scopes
pub mod Others
pub mod inner
