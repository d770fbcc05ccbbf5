pub mod RunTrails
pub mod Switched
pub mod Since
pub mod Laws
