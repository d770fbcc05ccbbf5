pub mod Values
pub mod ClassNumbers
pub mod Begun
pub mod Refusal
pub mod Choice
pub mod Turns
pub mod ParseTable
