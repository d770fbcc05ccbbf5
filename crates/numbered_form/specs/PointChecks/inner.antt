pub mod Faults
pub mod Numbered
pub mod Reports
