pub mod Lowered
pub mod Reports
pub mod Ends
