pub mod Reading
pub mod Levels
pub mod Payloads
