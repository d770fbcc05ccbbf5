pub mod Tables
pub mod RulesOf
pub mod LivesAreRuns
