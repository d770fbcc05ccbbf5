pub mod Refusals
pub mod inner
pub mod TypingForms
pub use Rattle.sil_types.specs as sil_types
pub use Rattle.sil_types.specs.sil_types_items as sil_types_items
