pub mod Runs
mod Once
pub mod LoweredRun
pub use Rattle.holder_model_values.proofs as holder_model_values
pub use Rattle.ownership_kinds_origins.proofs.ownership_kinds_chains as ownership_kinds_chains
pub use Rattle.ownership_kinds_origins.proofs as ownership_kinds_origins
pub use Rattle.memory_rules_accesses.proofs.reach_engine_marks as reach_engine_marks
pub use Rattle.ownership_kinds_origins.proofs.sil_types_items as sil_types_items
