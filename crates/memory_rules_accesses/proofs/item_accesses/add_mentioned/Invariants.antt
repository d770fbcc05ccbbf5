use Rattle.std.proofs.Common.{◌≡◌, ◌++◌, take, map}
use Rattle.memory_rules_accesses.specs.Accesses.{mentioned}
use Rattle.memory_rules_accesses.proofs.item_accesses.add_mentioned.Given as goal

abbrev pub invariant-loop-one : goal.invariant-loop-one
invariant-loop-one l = l.accesses.items ≡ l.initial.accesses.items ++ map (mentioned l.allowance) (take l.one-index l.taken)
