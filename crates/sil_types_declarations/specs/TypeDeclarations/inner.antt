pub mod Table
pub mod Found
