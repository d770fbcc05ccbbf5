pub mod Went
pub mod GoingOn
pub mod inner
