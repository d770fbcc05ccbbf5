pub mod Accesses
pub mod inner
pub use Rattle.reach_engine_marks.specs as reach_engine_marks
