pub mod DestroyShown
pub mod NoneLeft
pub mod Unique
pub mod Fewer
pub use Rattle.borrow_scopes.proofs as borrow_scopes
pub use Rattle.ownership_kinds_origins.proofs as ownership_kinds_origins
