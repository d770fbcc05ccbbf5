pub mod RunValues
pub mod ValueParts
pub use Rattle.sil_types_declarations.specs as sil_types_declarations
