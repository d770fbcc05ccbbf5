pub mod FirstFaults
pub mod NoFaults
