pub mod Stored
pub mod LowFrames
pub mod LowEffects
pub mod LowStepParts
pub mod LowSteps
pub mod LowOutcomes
pub mod inner
