pub mod AcceptedModules
pub mod TypedGraphLaws
pub use Rattle.lifetime_worklist.proofs as lifetime_worklist
pub use Rattle.memory_rules.proofs.memory_rules_slots as memory_rules_slots
pub use Rattle.ownership_kinds.proofs as ownership_kinds
