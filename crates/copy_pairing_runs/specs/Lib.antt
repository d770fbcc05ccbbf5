pub mod LentRuns
pub mod MovedRuns
pub mod OptimisedRuns
pub use Rattle.holder_model_laws.specs as holder_model_laws
