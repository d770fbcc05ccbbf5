pub mod Bitwise
pub mod LaidOver
pub mod Overflow
pub mod Pieces
pub mod Residues
pub mod Scattered
pub mod Windows
pub mod Wrapping
