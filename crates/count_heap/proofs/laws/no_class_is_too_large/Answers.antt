use Rattle.count_heap.proofs.LayoutsByClass.FieldLimits.{classes_small, fields_in_limits}
use Rattle.count_heap.proofs.laws.no_class_is_too_large.Goals as goal

pub returns-clause-fields : goal.returns-clause-fields
returns-clause-fields c = fields_in_limits

pub returns-clause-classes : goal.returns-clause-classes
returns-clause-classes c = classes_small
