pub mod Firsts
pub mod FirstFaults
pub mod Ranges
mod Counts
pub mod TypingForms
pub use Rattle.sil_types.proofs as sil_types
