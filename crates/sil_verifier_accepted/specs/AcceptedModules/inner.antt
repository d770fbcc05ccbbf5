pub mod Checked
pub mod Laws
