pub mod Imports
pub mod Types
pub mod Values
pub mod Opened
pub mod Variants
pub mod inner
