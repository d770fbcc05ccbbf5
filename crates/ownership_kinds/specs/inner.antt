pub mod Known
pub mod Faults
pub mod Ends
pub mod Laws
