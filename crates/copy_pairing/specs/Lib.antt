pub mod inner
pub use Rattle.copy_pairing_acceptance.specs as copy_pairing_acceptance
pub use Rattle.copy_pairing_runs.specs as copy_pairing_runs
