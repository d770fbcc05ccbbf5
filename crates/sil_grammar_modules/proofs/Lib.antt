pub mod LeafLemmas
pub mod ReplayLength
pub mod BuildLemmas
pub mod LackingLemmas
pub mod WholeLemmas
