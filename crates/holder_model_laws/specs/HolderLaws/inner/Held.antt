pub mod ObjectStates
pub mod Laws
pub mod Items
