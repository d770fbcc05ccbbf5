pub mod NewNumbers
pub mod Places
