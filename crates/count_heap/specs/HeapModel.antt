pub mod HeapViews
pub mod HeapCalls
pub mod FieldLimits
