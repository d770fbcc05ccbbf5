pub mod Rows
pub mod Agreeing
pub mod SameOthers
pub mod Reported
pub mod RulesOf
pub mod ScopesAreRuns
