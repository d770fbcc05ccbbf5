pub mod inner
pub use Rattle.sil_verifier_trails.specs.borrow_scopes as borrow_scopes
pub use Rattle.holder_model_laws.specs.holder_model as holder_model
pub use Rattle.holder_model_laws.specs as holder_model_laws
pub use Rattle.sil_verifier_trails.specs.holder_model_typing as holder_model_typing
pub use Rattle.holder_model_laws.specs.memory_rules_accesses as memory_rules_accesses
pub use Rattle.holder_model_laws.specs.memory_rules_parts as memory_rules_parts
pub use Rattle.holder_model_laws.specs.ownership_kinds_chains as ownership_kinds_chains
pub use Rattle.holder_model_laws.specs.ownership_kinds_origins as ownership_kinds_origins
pub use Rattle.holder_model_laws.specs.sil_types as sil_types
pub use Rattle.sil_verifier_trails.specs.sil_verifier_accepted as sil_verifier_accepted
pub use Rattle.sil_verifier_trails.specs as sil_verifier_trails
pub use Rattle.sil_verifier_trails.specs.sil_verifier_values as sil_verifier_values
