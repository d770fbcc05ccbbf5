pub mod LeafWindows
