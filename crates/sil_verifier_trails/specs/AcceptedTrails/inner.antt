pub mod Accepted
pub mod Defined
pub mod Passing
pub mod Lives
pub mod Bases
