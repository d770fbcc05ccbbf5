use Rattle.std.proofs.Common.{◌≡◌, ◌+◌, length}
use Rattle.sil_cfg.specs.Flow.{numbered}
use Rattle.number_tables.specs.PathLists.inner.Lists.{list_at}
use Rattle.reach_engine_marks.specs.KeptSubjects.inner.Broken.{AreMarked, GoesBrokenBefore}
use Rattle.reach_engine_marks.specs.KeptSubjects.inner.Settled.{subject_settled}
use Rattle.reach_engine_marks.proofs.kept_subjects.blocks.mark_blocks.Given as goal

abbrev pub invariant-loop-b : goal.invariant-loop-b
invariant-loop-b l = record {
  size : length l.broken ≡ length l.initial.broken;
  marked : AreMarked l.family.first l.family.count (GoesBrokenBefore (numbered l.g) (λ u. subject_settled (list_at l.family.entries.now) (l.family.first + u)) l.map.width l.map.words l.b)
      l.initial.broken l.broken;
}
