pub mod Loans
pub mod Laws
