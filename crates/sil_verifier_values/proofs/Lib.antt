pub mod Accepted
pub mod Facts
pub mod Counted
pub mod Places
pub mod Made
pub mod TableRows
pub mod Defined
pub mod Borrowed
pub mod Extracts
pub mod Told
pub mod Based
pub mod Suited
pub mod Parameters
pub mod Written
pub mod Calls
pub mod Returns
pub mod EdgesOnce
pub mod Switching
pub mod Branches
pub mod Switches
pub mod Addresses
pub mod Nones
pub use Rattle.holder_model_typing.proofs as holder_model_typing
pub use Rattle.holder_model_typing.proofs.holder_model_values as holder_model_values
pub use Rattle.sil_verifier_accepted.proofs.lifetime_worklist as lifetime_worklist
pub use Rattle.sil_verifier_accepted.proofs.memory_rules_slots as memory_rules_slots
pub use Rattle.sil_verifier_accepted.proofs.ownership_kinds as ownership_kinds
pub use Rattle.holder_model_typing.proofs.reach_engine_marks as reach_engine_marks
pub use Rattle.sil_verifier_accepted.proofs as sil_verifier_accepted
