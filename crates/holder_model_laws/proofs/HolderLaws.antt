pub mod Steps
pub mod Counts
pub mod Cells
pub mod Whole
pub mod Built
pub mod Held
