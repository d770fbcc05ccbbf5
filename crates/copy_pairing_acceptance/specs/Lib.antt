pub mod RewrittenTypingLaws
pub mod LentFunctions
pub mod LentMemory
pub mod MovedFunctions
pub mod MovedMemory
pub mod RewritingLaws
pub mod RewritingOrder
pub use Rattle.copy_pairing_model.specs as copy_pairing_model
