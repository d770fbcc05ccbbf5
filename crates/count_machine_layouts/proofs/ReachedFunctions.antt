pub mod ClassLines
pub mod Closing
pub mod Reaching
