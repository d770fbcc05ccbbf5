pub mod RunTypingLaws
pub mod OwnedRunTyping
pub mod TypedMemory
pub use Rattle.holder_model.specs as holder_model
pub use Rattle.holder_model.specs.holder_model_values as holder_model_values
pub use Rattle.holder_model.specs.memory_rules_accesses as memory_rules_accesses
pub use Rattle.holder_model.specs.ownership_kinds_chains as ownership_kinds_chains
pub use Rattle.holder_model.specs.ownership_kinds_origins as ownership_kinds_origins
pub use Rattle.holder_model.specs.reach_engine_marks as reach_engine_marks
pub use Rattle.holder_model.specs.sil_types as sil_types
pub use Rattle.holder_model.specs.sil_types_declarations as sil_types_declarations
