pub mod Statics
pub mod Broken
pub mod inner
pub use Rattle.memory_rules_accesses.specs as memory_rules_accesses
pub use Rattle.memory_rules_parts.specs as memory_rules_parts
pub use Rattle.memory_rules_slots.specs as memory_rules_slots
