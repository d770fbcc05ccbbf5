use Rattle.reach_engine.proofs.SubjectsMoved.{TurnedSome}
use Rattle.reach_engine.proofs.bundle.turn_touched.Given as goal

abbrev pub invariant-loop-subject : goal.invariant-loop-subject
invariant-loop-subject g l = TurnedSome (g.F.Family.step_of l.family) (g.F.Family.state_count l.family) l.width l.item l.touched l.fn.bundle l.bundle l.fn.bad l.bad l.subject-index
