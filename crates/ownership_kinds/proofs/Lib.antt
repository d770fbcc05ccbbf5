pub mod Broken
pub mod First
pub mod FirstRing
mod FactsTold
pub mod RulesOf
pub mod Defined
