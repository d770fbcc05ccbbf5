pub mod MovedFrames
pub mod Laws
