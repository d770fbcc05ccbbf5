pub mod Surveys
pub mod Turns
pub mod Passes
