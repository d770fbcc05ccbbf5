pub mod Idle
