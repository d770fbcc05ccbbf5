pub mod Spelling
pub mod Places
pub mod Lexes
pub mod inner
