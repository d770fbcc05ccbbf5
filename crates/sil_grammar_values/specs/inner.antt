pub mod Parts
pub mod RowMeaning
pub mod Meaning
pub mod PartFaults
pub mod Reduced
