use Rattle.holder_model_values.specs.RunValues.Shapes.{shape_of}
use Rattle.count_machine_ready.specs.inner.Bodies.{declared}
use Rattle.count_machine_ready.specs.inner.Cases.{AreReadyTo}
use Rattle.count_machine_ready.proofs.edges.ready_cases.Given as goal

abbrev pub invariant-loop-named : goal.invariant-loop-named
invariant-loop-named l = AreReadyTo (declared l.body) l.body.function.now (shape_of (declared l.body) l.ty) l.edges l.named-index l.cases
