pub mod WrittenTree
pub mod WrittenNumbers
