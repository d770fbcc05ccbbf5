pub mod Words
pub mod CanonicalTypes
pub mod CanonicalSignatures
pub mod CanonicalDecls
pub mod CanonicalInsts
pub mod CanonicalFunctions
pub mod CanonicalModules
