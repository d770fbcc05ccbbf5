mod BreakKeys
mod FirstShown
mod FirstOfAll
mod Crossed
mod AmongStatics
mod FirstStatic
mod OtherValue
mod Idle
pub mod RulesOf
pub use Rattle.memory_rules_slots.proofs as memory_rules_slots
