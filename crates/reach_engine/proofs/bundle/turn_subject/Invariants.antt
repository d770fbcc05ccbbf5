use Rattle.reach_engine.proofs.SubjectTurned.{Turning}
use Rattle.reach_engine.proofs.bundle.turn_subject.Given as goal

abbrev pub invariant-loop-state : goal.invariant-loop-state
invariant-loop-state g l = Turning (g.S.Scan.step_of l.scan) (g.S.Scan.state_count l.scan) l.width l.subject l.item l.fn.bundle l.bundle l.fn.bad l.bad l.state
