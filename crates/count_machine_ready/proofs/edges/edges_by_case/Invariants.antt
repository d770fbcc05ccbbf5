use Rattle.std.proofs.Common.{take}
use Rattle.holder_model_values.specs.RunValues.Shapes.{shape_of}
use Rattle.count_machine_ready.specs.inner.Bodies.{declared}
use Rattle.count_machine_ready.specs.inner.Cases.{AreByCase}
use Rattle.count_machine_ready.proofs.edges.edges_by_case.Given as goal

abbrev pub invariant-loop-number : goal.invariant-loop-number
invariant-loop-number l = AreByCase (shape_of (declared l.body) l.ty) (take l.number l.edges) l.count l.chosen.items
