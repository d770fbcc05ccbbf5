pub mod Statics
pub mod inner
pub use Rattle.ownership_kinds_origins.specs as ownership_kinds_origins
pub use Rattle.sil_types_declarations.specs as sil_types_declarations
