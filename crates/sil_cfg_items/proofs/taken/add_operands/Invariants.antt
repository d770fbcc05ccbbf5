use Rattle.std.proofs.Common.{◌≡◌, ◌++◌, take, length}
use Rattle.std.specs.Option.{option_copied}
use Rattle.sil_cfg_items.specs.Roles.{conventions_by, roles_for, taken_each}
use Rattle.sil_cfg_items.proofs.taken.add_operands.Given as goal

abbrev pub invariant-loop-i : goal.invariant-loop-i
invariant-loop-i l =
    l.taken.items ≡ l.initial.taken.items ++ taken_each (take l.i l.operands) (roles_for l.row (conventions_by (option_copied l.signature)) (length l.operands))
