pub mod TypeDefinitions
pub mod TypeDeclarations
pub use Rattle.number_tables.specs as number_tables
pub use Rattle.numbered_form.specs as numbered_form
