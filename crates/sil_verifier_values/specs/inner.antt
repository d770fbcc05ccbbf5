pub mod Known
pub mod Making
pub mod Rows
pub mod Bases
pub mod Operands
pub mod Nones
pub mod Handed
