pub mod PartTrails
pub mod Companions
