pub mod OwnedCounts
pub mod StoredRuns
pub mod SameRuns
pub mod EndedRuns
