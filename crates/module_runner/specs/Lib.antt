pub mod Entries
pub mod LoweredRuns
pub mod Optimising
pub mod inner
pub use Rattle.copy_pairing_model.specs as copy_pairing_model
pub use Rattle.module_runner_report.specs as module_runner_report
