pub mod BlockRows
pub mod Callees
pub mod CaseRuns
pub mod ClassPlaces
pub mod EndParts
pub mod EnumCases
mod Finding
pub mod MadeCalls
pub mod MadeEnds
pub mod MadeGroups
pub mod MadeOps
pub mod Matching
pub mod Noting
pub mod Offsets
pub mod OneByOne
pub mod ReachedCode
pub mod RowParts
pub mod TypedRows
