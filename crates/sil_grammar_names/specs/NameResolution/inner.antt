pub mod FirstFaults
pub mod Items
pub mod Refusals
pub mod Tables
