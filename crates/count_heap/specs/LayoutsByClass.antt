pub mod ClassFields
pub mod Layouts
pub mod inner
