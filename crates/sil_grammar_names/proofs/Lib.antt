pub mod NameScopes
pub mod NameResolution
