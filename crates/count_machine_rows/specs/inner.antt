pub mod LiveGiven
pub mod Storing
