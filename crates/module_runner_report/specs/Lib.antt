pub mod RunOutcomes
pub mod inner
