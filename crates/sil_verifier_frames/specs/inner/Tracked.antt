pub mod TrackedStates
pub mod Laws
