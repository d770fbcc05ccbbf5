pub mod Lawful
pub mod Along
pub mod Marks
pub mod Switch
pub mod inner
