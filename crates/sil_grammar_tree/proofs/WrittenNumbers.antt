pub mod Residues
pub mod Printed
