mod Entering
pub mod Stays
mod OneEntry
mod Reported
mod LeftRuns
mod WholeRuns
pub mod LoweredReports
