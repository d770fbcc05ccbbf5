pub mod Refusals
pub mod Typing
pub mod inner
pub use Rattle.sil_types_declarations.specs.numbered_form as numbered_form
pub use Rattle.sil_types_declarations.specs as sil_types_declarations
pub use Rattle.sil_types_items.specs as sil_types_items
