pub mod Told
pub mod Parts
pub mod Members
pub mod Forms
pub mod Cases
pub mod Shown
pub mod Reports
