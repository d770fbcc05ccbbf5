pub mod DeclaredTypes
pub mod Groups
pub mod NothingFound
pub mod ShortestWalks
