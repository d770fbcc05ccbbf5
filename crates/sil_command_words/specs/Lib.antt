pub mod CommandLines
pub mod inner
