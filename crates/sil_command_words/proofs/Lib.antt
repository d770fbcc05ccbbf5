pub mod Rows
pub mod Parsed
pub mod Sorts
pub mod Steps
pub mod Taken
pub mod Read
pub mod Flags
pub mod Lines
