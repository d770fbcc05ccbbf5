pub mod Keys
pub mod Index
pub mod Concerned
pub mod Batches
pub mod Laws
