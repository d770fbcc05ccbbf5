pub mod Refusals
pub mod Shown
pub mod Values
pub mod Findings
pub mod inner
