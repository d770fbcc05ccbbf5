pub mod Said
pub mod Laws
pub mod About
pub mod Operands
pub mod Found
pub mod FieldPlaces
pub mod BuiltStates
