pub mod Typed
pub mod Tracked
pub mod Placed
pub use Rattle.holder_model_laws.proofs as holder_model_laws
pub use Rattle.sil_verifier_trails.proofs.holder_model_typing as holder_model_typing
pub use Rattle.holder_model_laws.proofs.ownership_kinds_origins as ownership_kinds_origins
pub use Rattle.sil_verifier_trails.proofs as sil_verifier_trails
pub use Rattle.sil_verifier_trails.proofs.sil_verifier_values as sil_verifier_values
