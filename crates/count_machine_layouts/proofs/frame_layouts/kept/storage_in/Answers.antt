use Rattle.std.proofs.Common.{sym, ap, ◌∙◌}
use Rattle.holder_model_values.specs.RunValues.Shapes.{shape_of, storage_in}
use Rattle.count_machine_layouts.proofs.FrameLayouts.StoredShapes.{name_unstored}
use Rattle.count_machine_layouts.proofs.frame_layouts.kept.storage_in.Goals as goal

pub returns-in-Named : goal.returns-in-Named
returns-in-Named c = λ d. sym (ap (λ t. storage_in (shape_of d t)) c.in-Named.is ∙ name_unstored d c.in-Named.field-0)
