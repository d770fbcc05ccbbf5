pub mod Typed
pub mod Tracked
pub mod Placed
