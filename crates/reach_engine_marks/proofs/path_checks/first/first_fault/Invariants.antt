use Rattle.std.proofs.Common.{ℕ, ◌-◌, ◌<◌, ◌≤◌}
use Rattle.sil_cfg.specs.Flow.{numbered}
use Rattle.reach_engine.specs.inner.Search.{IsClean}
use Rattle.reach_engine_marks.specs.PathChecks.inner.Automata.{subject_step}
use Rattle.reach_engine_marks.specs.PathChecks.inner.Shared.{entries_with}
use Rattle.reach_engine_marks.proofs.path_checks.first.first_fault.Given as goal

abbrev pub invariant-loop-first : goal.invariant-loop-first
invariant-loop-first l = record {
  within : l.first ≤ l.subjects;
  clean : (v : ℕ) → v < l.first → IsClean (numbered l.g) (subject_step (entries_with l.entries l.marks l.sharing) v);
}

abbrev pub decreases-loop-first : goal.decreases-loop-first
decreases-loop-first l = l.subjects - l.first
