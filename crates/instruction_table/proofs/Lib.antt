pub mod Numbers
pub mod BuiltinNames
