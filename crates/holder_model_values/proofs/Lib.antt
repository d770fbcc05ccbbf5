pub mod RunValues
pub mod ValueParts
