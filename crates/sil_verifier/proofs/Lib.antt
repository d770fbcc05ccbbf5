pub mod FirstFaults
mod FirstShown
mod Functions
mod Stages
pub use Rattle.sil_verifier_accepted.proofs as sil_verifier_accepted
