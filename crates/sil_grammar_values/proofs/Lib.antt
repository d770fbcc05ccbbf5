pub mod Unfolded
pub mod Popped
