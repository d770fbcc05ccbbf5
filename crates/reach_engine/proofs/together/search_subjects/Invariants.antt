use Rattle.std.proofs.Common.{ℕ, ◌<◌}
use Rattle.sil_cfg.specs.Flow.{numbered}
use Rattle.reach_engine.specs.inner.Search.{IsClean}
use Rattle.reach_engine.proofs.together.search_subjects.Given as goal

abbrev pub invariant-loop-subject : goal.invariant-loop-subject
invariant-loop-subject g l = (u : ℕ) → u < l.subject → IsClean (numbered l.g) (g.F.Family.step_of l.family u)
