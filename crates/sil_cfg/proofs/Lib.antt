pub mod Gets
pub mod Numbers
pub mod Blocks
pub mod BlockReads
pub mod Places
pub mod Paths
pub mod SplicedTrails
pub mod GraphTrails
