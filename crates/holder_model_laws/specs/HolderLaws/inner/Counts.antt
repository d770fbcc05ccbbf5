pub mod Taking
pub mod Keeping
pub mod Doing
pub mod Naming
pub mod Moving
