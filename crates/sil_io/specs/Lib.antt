pub mod Count
pub mod Reading
pub mod Writing
pub mod inner
