pub mod HolderLaws
pub mod StoredCounts
pub mod LockstepRuns
pub mod LoweredSteps
pub mod ReferenceTotals
pub use Rattle.holder_model.proofs.ownership_kinds_origins as ownership_kinds_origins
