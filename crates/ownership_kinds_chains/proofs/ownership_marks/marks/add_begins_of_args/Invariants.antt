use Rattle.std.proofs.Common.{◌≡◌, ◌++◌, map, take}
use Rattle.std.specs.List.{flat_map}
use Rattle.ownership_kinds_chains.specs.OwnershipChains.Facts.{told_at}
use Rattle.sil_cfg_items.specs.Items.{arg_value}
use Rattle.ownership_kinds_chains.specs.OwnershipMarks.Marks.{begun}
use Rattle.ownership_kinds_chains.proofs.ownership_marks.marks.add_begins_of_args.Given as goal

abbrev pub invariant-loop-arg : goal.invariant-loop-arg
invariant-loop-arg l = l.marks.items ≡ l.initial.marks.items ++ flat_map (begun (told_at l.table)) (map arg_value (take l.arg-index l.args))
