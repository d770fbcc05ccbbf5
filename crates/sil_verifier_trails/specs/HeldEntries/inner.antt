pub mod Entries
pub mod Tracked
