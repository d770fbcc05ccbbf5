pub mod Switched
pub mod Origins
pub mod Renamings
pub mod Facts
pub mod inner
pub use Rattle.numbered_form.specs as numbered_form
pub use Rattle.ownership_kinds_chains.specs as ownership_kinds_chains
pub use Rattle.numbered_form.specs.sil_rules as sil_rules
pub use Rattle.sil_types.specs as sil_types
