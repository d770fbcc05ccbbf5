pub mod Built
pub mod Guarded
pub mod Loans
pub mod KeptOnRuns
pub mod GuardedRuns
pub mod PlacesServe
pub mod RightRuns
pub use Rattle.sil_verifier_frames.proofs.holder_model_laws as holder_model_laws
pub use Rattle.sil_verifier_frames.proofs.holder_model_typing as holder_model_typing
pub use Rattle.sil_verifier_frames.proofs.ownership_kinds_origins as ownership_kinds_origins
pub use Rattle.sil_verifier_frames.proofs as sil_verifier_frames
pub use Rattle.sil_verifier_frames.proofs.sil_verifier_trails as sil_verifier_trails
pub use Rattle.sil_verifier_frames.proofs.sil_verifier_values as sil_verifier_values
