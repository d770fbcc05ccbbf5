pub mod Starts
pub mod Sections
