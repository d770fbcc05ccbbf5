pub mod Copies
pub mod Counts
pub mod Removable
pub mod Rewritten
pub mod Optimised
pub mod inner
pub use Rattle.ownership_kinds_origins.specs as ownership_kinds_origins
