pub mod LeafWindows
pub mod HeapLeaves
