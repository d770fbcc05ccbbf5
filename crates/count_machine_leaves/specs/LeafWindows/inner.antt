pub mod Grouped
pub mod Carried
pub mod Computed
