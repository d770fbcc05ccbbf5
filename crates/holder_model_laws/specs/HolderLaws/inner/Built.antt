pub mod Building
pub mod FrameObjects
pub mod Laws
