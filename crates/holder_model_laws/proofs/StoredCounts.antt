pub mod StoredCounts
pub mod Turns
pub mod Items
pub mod RowNames
pub mod RowsMade
pub mod QuietRows
pub mod RowBalance
pub mod FrameTurns
