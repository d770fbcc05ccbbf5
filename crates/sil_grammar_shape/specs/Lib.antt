pub mod Accepts
pub mod Derivation
pub mod Shortest
pub mod Unsupported
pub mod inner
