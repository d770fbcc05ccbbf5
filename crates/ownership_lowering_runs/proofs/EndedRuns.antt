pub mod Measured
pub mod Work
pub mod LowLess
pub mod HolderLess
pub mod Ended
