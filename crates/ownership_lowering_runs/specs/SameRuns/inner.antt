pub mod Followed
pub mod InRightStates
pub mod Laws
