use Rattle.std.proofs.Common.{◌≡◌, drop, find}
use Rattle.std.specs.Prelude.{option_map}
use Rattle.borrow_scopes.specs.Others.{ends_one, marked_value}
use Rattle.borrow_scopes.proofs.others.first_ended.Given as goal

abbrev pub invariant-loop-mark : goal.invariant-loop-mark
invariant-loop-mark l =
    option_map marked_value (find (ends_one l.values) (drop l.mark-index l.marks)) ≡ option_map marked_value (find (ends_one l.values) l.marks)
