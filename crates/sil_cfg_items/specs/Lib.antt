pub mod Parts
pub mod Roles
pub mod Items
