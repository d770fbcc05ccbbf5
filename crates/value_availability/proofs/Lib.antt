pub mod RulesOf
