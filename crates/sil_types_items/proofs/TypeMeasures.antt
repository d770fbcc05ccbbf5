pub mod Gathering
pub mod Placing
pub mod Agreement
pub mod ByParts
pub mod Ordered
