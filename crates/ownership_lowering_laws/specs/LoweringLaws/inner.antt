pub mod Lowerable
pub mod Laws
