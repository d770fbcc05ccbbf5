pub mod Agreeing
pub mod Lockstep
pub mod Parts
pub mod Frames
pub mod Laws
