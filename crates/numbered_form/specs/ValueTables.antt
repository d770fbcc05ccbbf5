pub mod Borrows
pub mod FirstValue
pub mod ValueRows
