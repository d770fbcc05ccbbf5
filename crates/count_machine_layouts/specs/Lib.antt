pub mod ReachedFunctions
pub mod FrameLayouts
