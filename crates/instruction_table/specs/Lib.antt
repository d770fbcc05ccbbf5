pub mod Forms
pub mod BuiltinNames
