pub mod HolderLaws
pub mod StoredCounts
pub mod LockstepRuns
pub mod LoweredSteps
pub mod ReferenceTotals
pub use Rattle.holder_model.specs as holder_model
pub use Rattle.memory_rules_parts.specs.memory_rules_accesses as memory_rules_accesses
pub use Rattle.memory_rules_parts.specs as memory_rules_parts
pub use Rattle.memory_rules_parts.specs.ownership_kinds_chains as ownership_kinds_chains
pub use Rattle.holder_model.specs.ownership_kinds_origins as ownership_kinds_origins
pub use Rattle.memory_rules_parts.specs.sil_types as sil_types
