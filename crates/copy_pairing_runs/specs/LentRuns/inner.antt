pub mod LentEntries
pub mod Sparing
pub mod Covering
pub mod Laws
