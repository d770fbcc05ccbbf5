pub mod PathPatterns
pub mod PathChecks
pub mod KeptSubjects
