use Rattle.std.proofs.Common.{◌≡◌, ◌<◌, take}
use Rattle.reach_engine.specs.declared.scan.Step.TheVariants.{Go}
use Rattle.reach_engine.specs.inner.Run.{run}
use Rattle.reach_engine_marks.specs.PathPatterns.inner.Reads.{read_step}
use Rattle.reach_engine_marks.specs.PathChecks.Entries.{means}
use Rattle.reach_engine_marks.specs.KeptSubjects.inner.Settled.{settled_step}
use Rattle.reach_engine_marks.proofs.kept_subjects.settling.settle_all.Given as goal

abbrev pub invariant-loop-entry : goal.invariant-loop-entry
invariant-loop-entry l = (run (read_step settled_step (means l.subject)) (Go l.state) (take l.entry-index l.entries) ≡ Go l.current) × (l.current < 3)
