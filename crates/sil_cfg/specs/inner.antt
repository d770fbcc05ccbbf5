pub mod Build
pub mod Splice
pub mod Laying
