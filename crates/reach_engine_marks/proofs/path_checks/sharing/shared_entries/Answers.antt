use Rattle.reach_engine_marks.proofs.PathChecks.SharedMarks.{shared_pushed}
use Rattle.reach_engine_marks.proofs.path_checks.sharing.shared_entries.Goals as goal

pub loop-subject-preserved : goal.loop-subject-preserved
loop-subject-preserved c = shared_pushed c.args.marks.now c.loop-subject.subject _ _ _ c.loop-subject-test.true c.in_ok-push_shared.ensures c.loop-subject.invariant
