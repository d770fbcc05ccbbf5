pub mod LowRuns
pub mod inner
pub mod ValueReading
pub use Rattle.count_machine_laws.specs as count_machine_laws
