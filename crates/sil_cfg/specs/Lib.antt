pub mod Layout
pub mod Flow
pub mod Walk
pub mod Items
pub mod Returns
pub mod inner
