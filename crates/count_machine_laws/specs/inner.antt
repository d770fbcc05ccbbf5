pub mod Told
pub mod LastHeaps
pub mod MachineRuns
