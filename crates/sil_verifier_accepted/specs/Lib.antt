pub mod AcceptedModules
pub mod TypedGraphLaws
pub use Rattle.borrow_scopes.specs as borrow_scopes
pub use Rattle.lifetime_worklist.specs as lifetime_worklist
pub use Rattle.memory_rules.specs as memory_rules
pub use Rattle.memory_rules.specs.memory_rules_parts as memory_rules_parts
pub use Rattle.memory_rules.specs.memory_rules_slots as memory_rules_slots
pub use Rattle.ownership_kinds.specs as ownership_kinds
pub use Rattle.type_check.specs as type_check
pub use Rattle.value_availability.specs as value_availability
