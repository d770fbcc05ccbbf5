use Rattle.std.proofs.Common.{◌≡◌, ◌*◌, length, take}
use Rattle.reach_engine_marks.specs.KeptSubjects.inner.Settled.{ArePassed}
use Rattle.reach_engine_marks.proofs.kept_subjects.settling.pass_entries.Given as goal

abbrev pub invariant-loop-entry : goal.invariant-loop-entry
invariant-loop-entry l = record {
  size : length l.bundle ≡ 3 * l.width;
  bad_size : length l.bad ≡ l.width;
  passed : ArePassed l.first l.count l.width (take l.entry-index l.entries) l.fn.bundle l.bundle l.fn.bad l.bad;
}
