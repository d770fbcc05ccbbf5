use Rattle.std.proofs.Common.{◌≡◌, ℕ, ◌<◌, [], length}
use Rattle.std.specs.Option.{option_map_or}
use Rattle.sil_cfg.specs.Layout.{item_at}
use Rattle.ownership_kinds_chains.specs.OwnershipChains.Facts.{told_at}
use Rattle.ownership_kinds_chains.specs.OwnershipMarks.Known.{marks_in}
use Rattle.ownership_kinds_chains.specs.OwnershipMarks.Marks.{marks_of}
use Rattle.ownership_kinds_chains.proofs.ownership_marks.marks.all_marks.Given as goal

abbrev pub invariant-loop-i : goal.invariant-loop-i
invariant-loop-i l = record {
  size : length l.all ≡ l.i;
  marks : (k : ℕ) → k < l.i → marks_in l.all k ≡ option_map_or (marks_of (told_at l.table) l.f) (item_at l.g k) [];
}
