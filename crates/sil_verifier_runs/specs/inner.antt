pub mod Built
pub mod Guarded
pub mod Loans
pub mod Kept
pub mod RightStates
pub mod Laws
