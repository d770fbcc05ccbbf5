pub mod TypedStates
pub mod Laws
