pub mod OwnedRows
pub mod CountedInsts
pub mod CountedReturns
