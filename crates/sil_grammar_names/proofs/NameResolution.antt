pub mod FaultLemmas
pub mod FaultOrder
pub mod NumberLemmas
pub mod ResolvedLemmas
pub mod Steps
