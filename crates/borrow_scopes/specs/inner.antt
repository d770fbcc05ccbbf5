pub mod Borrows
pub mod Tables
pub mod Laws
pub mod Runs
