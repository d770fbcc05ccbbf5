-- How many leaves the fields of a class have.
pub use Rattle.count_heap.specs.HeapModel.HeapViews.{class_fields, field_leaves, leaves_by_field, named_fields, stored_type}
pub use Rattle.count_heap.specs.HeapModel.FieldLimits.{AreFieldsInLimits, IsFieldInLimits}
