pub mod Lists
pub mod Counted
pub mod ValueTables
pub mod PointChecks
