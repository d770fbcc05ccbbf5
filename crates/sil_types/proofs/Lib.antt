pub mod FirstRefusals
mod PastLimits
pub use Rattle.sil_types_items.proofs as sil_types_items
