pub mod OwnershipChains
pub mod OwnershipMarks
pub use Rattle.sil_cfg_items.specs as sil_cfg_items
