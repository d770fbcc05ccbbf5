pub mod Lexing
pub mod Scan
