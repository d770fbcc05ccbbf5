pub mod TypeItemRules
pub mod TypeMeasures
