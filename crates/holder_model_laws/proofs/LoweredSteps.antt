pub mod LowTold
pub mod LowTaken
