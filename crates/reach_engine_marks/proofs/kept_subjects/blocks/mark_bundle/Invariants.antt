use Rattle.std.proofs.Common.{◌≡◌, length}
use Rattle.reach_engine.specs.inner.Columns.{Has}
use Rattle.reach_engine_marks.specs.KeptSubjects.inner.Broken.{AreMarked}
use Rattle.reach_engine_marks.proofs.kept_subjects.blocks.mark_bundle.Given as goal

abbrev pub invariant-loop-u : goal.invariant-loop-u
invariant-loop-u l = record {
  size : length l.broken ≡ length l.initial.broken;
  marked : AreMarked l.first l.u (Has l.bundle l.width 2) l.initial.broken l.broken;
}
