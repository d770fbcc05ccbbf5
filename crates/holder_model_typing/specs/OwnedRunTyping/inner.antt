pub mod OwnedRows
pub mod OwnedEnds
pub mod OwnedTyped
