pub mod Calls
pub mod MemorySink
pub mod MemorySource
