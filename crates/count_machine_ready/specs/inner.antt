pub mod Bodies
pub mod BuiltinsTold
pub mod Cases
pub mod Ends
pub mod Functions
pub mod Parts
pub mod Rows
