pub mod StaticFaults
pub mod Ends
pub mod Reports
