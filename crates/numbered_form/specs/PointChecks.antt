pub mod Points
pub mod inner
