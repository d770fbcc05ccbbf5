pub mod Lives
pub mod inner
