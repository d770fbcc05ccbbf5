pub mod Advanced
pub mod Work
