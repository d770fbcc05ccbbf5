pub mod Operations
pub mod Stacks
pub mod Located
pub mod Cells
pub mod Loans
pub mod Unfinished
