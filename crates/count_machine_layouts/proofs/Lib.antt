pub mod ReachedFunctions
pub mod FrameLayouts
pub use Rattle.holder_model_typing.proofs as holder_model_typing
