pub mod AfterEach
pub mod BlockItems
pub mod RunPaths
pub mod TurnedTrails
pub mod WalkEdges
pub mod SwitchedTrails
pub mod SplicedRuns
