pub mod Order
pub mod Marks
pub mod Pairs
pub mod inner
