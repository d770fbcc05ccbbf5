pub mod ByItem
pub mod Following
pub mod SourceCount
pub mod Operating
pub mod Upcasting
pub use Rattle.reach_engine_marks.proofs as reach_engine_marks
