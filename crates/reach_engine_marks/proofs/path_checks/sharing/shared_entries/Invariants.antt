use Rattle.std.proofs.Common.{◌≡◌, take}
use Rattle.reach_engine_marks.specs.PathChecks.inner.Shared.{shared_from}
use Rattle.reach_engine_marks.proofs.path_checks.sharing.shared_entries.Given as goal

abbrev pub invariant-loop-subject : goal.invariant-loop-subject
invariant-loop-subject l = l.shared.items ≡ shared_from 0 (take l.subject l.marks)
