pub mod Declarations
pub mod Mentions
pub mod Contained
pub mod Measures
pub mod Rules
pub mod Lookups
