pub mod RunTrails
pub mod AcceptedTrails
pub mod AcceptedMemory
pub mod HeldEntries
pub mod AcceptedPremises
pub mod AcceptedPlaces
pub mod PlacedValues
pub mod ScopedAddresses
pub mod AcceptedFacts
pub use Rattle.sil_verifier_values.proofs.holder_model_typing as holder_model_typing
pub use Rattle.sil_verifier_values.proofs.lifetime_worklist as lifetime_worklist
pub use Rattle.sil_verifier_values.proofs.memory_rules_slots as memory_rules_slots
pub use Rattle.sil_verifier_values.proofs.ownership_kinds as ownership_kinds
pub use Rattle.sil_verifier_values.proofs as sil_verifier_values
