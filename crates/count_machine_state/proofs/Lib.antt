pub mod CarriedLists
pub mod GoingOn
pub mod MoreReferences
pub mod Putting
pub mod Raised
pub mod Tasks
