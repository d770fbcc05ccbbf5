pub mod RunTrails
pub mod AcceptedTrails
pub mod AcceptedMemory
pub mod HeldEntries
pub mod AcceptedPremises
pub mod AcceptedPlaces
pub mod PlacedValues
pub mod ScopedAddresses
pub mod AcceptedFacts
pub use Rattle.sil_verifier_values.specs.borrow_scopes as borrow_scopes
pub use Rattle.sil_verifier_values.specs.holder_model as holder_model
pub use Rattle.sil_verifier_values.specs.holder_model_typing as holder_model_typing
pub use Rattle.sil_verifier_values.specs.lifetime_worklist as lifetime_worklist
pub use Rattle.sil_verifier_values.specs.memory_rules as memory_rules
pub use Rattle.sil_verifier_values.specs.memory_rules_accesses as memory_rules_accesses
pub use Rattle.sil_verifier_values.specs.memory_rules_parts as memory_rules_parts
pub use Rattle.sil_verifier_values.specs.memory_rules_slots as memory_rules_slots
pub use Rattle.sil_verifier_values.specs.ownership_kinds as ownership_kinds
pub use Rattle.sil_verifier_values.specs.sil_verifier_accepted as sil_verifier_accepted
pub use Rattle.sil_verifier_values.specs as sil_verifier_values
pub use Rattle.sil_verifier_values.specs.type_check as type_check
