pub mod Firsts
pub mod FirstFault
pub mod Facts
pub mod Body
