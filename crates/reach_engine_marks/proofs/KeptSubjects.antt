pub mod EntriesSettled
pub mod Rows
pub mod Marked
pub mod BlocksBroken
pub mod StaysBroken
