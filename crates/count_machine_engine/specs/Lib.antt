pub mod Led
pub mod inner
