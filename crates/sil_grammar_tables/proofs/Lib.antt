pub mod RowLemmas
pub mod Unfolded
