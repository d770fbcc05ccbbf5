pub mod Sources
pub mod Locations
pub mod Operations
pub mod Rows
pub mod Accesses
pub mod inner
pub use Rattle.argument_conventions.specs as argument_conventions
pub use Rattle.reach_engine_marks.specs as reach_engine_marks
pub use Rattle.sil_cfg.specs as sil_cfg
pub use Rattle.sil_cfg_items.specs as sil_cfg_items
pub use Rattle.sil_types.specs as sil_types
