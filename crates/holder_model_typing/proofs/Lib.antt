pub mod RunTypingLaws
pub mod OwnedRunTyping
pub mod TypedMemory
pub use Rattle.holder_model.proofs.holder_model_values as holder_model_values
pub use Rattle.holder_model.proofs.ownership_kinds_chains as ownership_kinds_chains
pub use Rattle.holder_model.proofs.ownership_kinds_origins as ownership_kinds_origins
pub use Rattle.holder_model.proofs.reach_engine_marks as reach_engine_marks
pub use Rattle.holder_model.proofs.sil_types_items as sil_types_items
