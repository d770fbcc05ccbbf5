pub mod Endings
pub mod Entries
pub mod Laws
pub mod RunReports
pub mod WholeRuns
