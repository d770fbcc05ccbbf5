pub mod Terminals
pub mod Rows
pub mod Grammar
pub mod Shortest
pub mod inner
