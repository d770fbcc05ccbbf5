pub mod TypedEnds
pub mod TypedCalls
pub mod TypedSteps
pub mod TypedPlaces
pub mod TypedRows
pub mod TypedInsts
pub mod TypedPlainRows
pub mod TypedTraps
