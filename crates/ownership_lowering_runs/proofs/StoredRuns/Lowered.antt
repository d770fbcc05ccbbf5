pub mod LoweredCode
pub mod LoweredNames
pub mod LoweredEdges
pub mod LoweredSo
pub mod SparesApart
pub mod SpareValues
