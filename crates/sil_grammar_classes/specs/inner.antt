pub mod ByLetter
pub mod Laws
