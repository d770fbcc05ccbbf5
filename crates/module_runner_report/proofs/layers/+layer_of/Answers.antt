use Rattle.std.proofs.Common.{◌∙◌}
use Rattle.module_runner_report.proofs.Forms.{tuple_text}
use Rattle.module_runner_report.proofs.layers.+layer_of.Goals as goal

pub returns-in-Tuple : goal.returns-in-Tuple
returns-in-Tuple t c = λ left v.
    tuple_text c.args.table.now c.args.ty.now left v c.in-Tuple.elements c.as_slice.result.now c.in-Tuple.is (c.as_slice.ensures ∙ c.get-in-Tuple.ensures)
