pub mod DefinedNames
pub mod Steps
pub mod SymbolLemmas
