pub mod LoweringLaws
pub mod LoweredNumberingLaws
pub mod LoweredTypingLaws
pub use Rattle.holder_model_typing.specs as holder_model_typing
pub use Rattle.ownership_kinds.specs as ownership_kinds
pub use Rattle.ownership_lowering_model.specs as ownership_lowering_model
