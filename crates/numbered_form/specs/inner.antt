pub mod Parts
pub mod Literals
pub mod Fields
pub mod Types
pub mod Functions
pub mod Limits
pub mod NumberedForm
