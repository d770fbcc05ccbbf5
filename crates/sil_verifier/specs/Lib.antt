pub mod inner
pub use Rattle.sil_verifier_runs.specs.holder_model as holder_model
pub use Rattle.sil_verifier_runs.specs.holder_model_laws as holder_model_laws
pub use Rattle.sil_verifier_accepted.specs as sil_verifier_accepted
