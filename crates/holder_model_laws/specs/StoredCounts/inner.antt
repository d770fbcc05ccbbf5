pub mod Numbers
pub mod Turns
pub mod Items
pub mod Rows
pub mod FrameTurns
