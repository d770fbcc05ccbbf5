pub mod Suits
pub mod Paths
pub mod LeafLists
pub mod Storages
pub mod Choices
pub mod StoredNames
