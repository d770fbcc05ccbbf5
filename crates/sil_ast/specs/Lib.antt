pub mod TypeName
pub mod Imports
pub mod Blocks
pub mod formers
pub mod inner
pub mod TextBytes
pub use Rattle.instruction_table.specs as instruction_table
