pub mod Forms
pub mod Fronts
pub mod Related
pub mod LeavesBack
pub mod Sizes
