pub mod LentRuns
pub mod MovedRuns
pub mod OptimisedRuns
