pub mod Data
pub mod States
pub mod Holders
pub mod Dropping
pub mod Builtins
pub mod ModuleShapes
pub mod Effects
pub mod Faults
pub mod MemoryEffects
pub mod Frames
pub mod Calling
pub mod ModuleFacts
pub mod Standing
pub mod Edges
pub mod HolderStates
pub mod StepParts
pub mod Steps
pub mod Outcomes
pub mod inner
pub mod LoweredRun
pub mod RunReport
pub mod RunTyping
pub use Rattle.holder_model_values.specs as holder_model_values
pub use Rattle.memory_rules_accesses.specs as memory_rules_accesses
pub use Rattle.ownership_kinds_origins.specs.ownership_kinds_chains as ownership_kinds_chains
pub use Rattle.ownership_kinds_origins.specs as ownership_kinds_origins
pub use Rattle.memory_rules_accesses.specs.reach_engine_marks as reach_engine_marks
pub use Rattle.memory_rules_accesses.specs.sil_cfg_items as sil_cfg_items
pub use Rattle.ownership_kinds_origins.specs.sil_types as sil_types
pub use Rattle.holder_model_values.specs.sil_types_declarations as sil_types_declarations
