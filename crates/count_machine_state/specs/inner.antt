pub mod NameHeld
pub mod Raised
