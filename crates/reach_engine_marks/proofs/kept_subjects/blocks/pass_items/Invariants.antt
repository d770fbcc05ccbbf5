use Rattle.std.proofs.Common.{◌≡◌, ◌+◌, ◌*◌, length, take}
use Rattle.number_tables.specs.PathLists.inner.Lists.{list_at}
use Rattle.reach_engine.specs.inner.Columns.{AllMoved}
use Rattle.reach_engine_marks.specs.KeptSubjects.inner.Settled.{subject_settled}
use Rattle.reach_engine_marks.proofs.kept_subjects.blocks.pass_items.Given as goal

abbrev pub invariant-loop-item : goal.invariant-loop-item
invariant-loop-item l = record {
  size : length l.bundle ≡ 3 * l.width;
  bad_size : length l.bad ≡ l.width;
  moved : AllMoved (λ u. subject_settled (list_at l.family.entries.now) (l.family.first + u)) 3 l.family.count l.width (take l.item-index l.items) l.fn.bundle l.bundle l.fn.bad l.bad;
}
