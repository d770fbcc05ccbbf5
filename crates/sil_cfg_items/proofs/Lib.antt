pub mod Roling
