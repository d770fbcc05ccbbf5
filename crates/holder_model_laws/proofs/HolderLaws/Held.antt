pub mod Below
pub mod Drops
pub mod Items
pub mod Entering
