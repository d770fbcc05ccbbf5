mod Noting
mod ResultByResult
mod ByTables
mod TrivialTuples
pub mod Counts
pub mod Ranges
mod Ordered
pub use Rattle.ownership_kinds_chains.proofs as ownership_kinds_chains
pub use Rattle.sil_types.proofs.sil_types_items as sil_types_items
