pub mod ReadyCode
pub mod MachineSteps
pub use Rattle.count_heap.specs as count_heap
pub use Rattle.holder_model.specs as holder_model
pub use Rattle.holder_model.specs.memory_rules_accesses as memory_rules_accesses
