pub mod Names
pub mod NewInsts
pub mod Extracts
pub mod LoweredInsts
pub mod LoweredBlocks
pub mod Numbers
pub mod LoweredModules
