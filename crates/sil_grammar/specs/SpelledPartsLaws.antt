pub mod Limits
pub mod RowParts
pub mod Means
pub mod Faults
pub mod Reading
pub mod Stands
pub mod inner
