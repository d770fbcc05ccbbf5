pub mod LoweringLaws
pub mod LoweredNumberingLaws
pub mod LoweredTypingLaws
pub use Rattle.holder_model_typing.proofs as holder_model_typing
