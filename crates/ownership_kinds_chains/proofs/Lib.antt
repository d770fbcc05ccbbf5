pub mod OwnershipChains
pub mod OwnershipMarks
