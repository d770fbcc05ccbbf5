pub mod Switches
pub mod Contents
pub mod Allocations
pub mod Loans
pub mod Building
pub mod Addresses
pub mod Parts
pub mod Shown
pub mod inner
pub use Rattle.memory_rules_accesses.specs as memory_rules_accesses
pub use Rattle.ownership_kinds_chains.specs as ownership_kinds_chains
pub use Rattle.memory_rules_accesses.specs.sil_types as sil_types
