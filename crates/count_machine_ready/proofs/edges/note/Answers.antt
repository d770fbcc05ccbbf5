use Rattle.count_machine_ready.proofs.Noting.{noted_new, noted_old, noted_past}
use Rattle.count_machine_ready.proofs.edges.note.Goals as goal
use Rattle.count_machine_ready.proofs.edges.note.Goals.{else-place-chosen-via-then-place-chosen+else-is_none, else-place-chosen-via-else-place-chosen}

pub returns-then-is_none : goal.returns-then-is_none
returns-then-is_none c = noted_new c.args.chosen.now c.args.place c.args.edge c.if-place-chosen.true c.if-is_none.ensures

pub returns-else-place-chosen : goal.returns-else-place-chosen
returns-else-place-chosen c = elim c.else-place-chosen.branch [
  | else-place-chosen-via-then-place-chosen+else-is_none w ↦ noted_old c.args.chosen.now c.args.place c.args.edge w.if-is_none.ensures
  | else-place-chosen-via-else-place-chosen w ↦ noted_past c.args.chosen.now c.args.place c.args.edge w.if-place-chosen.false
]
