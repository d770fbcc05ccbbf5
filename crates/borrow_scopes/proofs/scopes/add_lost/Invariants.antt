use Rattle.std.proofs.Common.{◌≡◌, ◌++◌, map, take}
use Rattle.borrow_scopes.specs.Scopes.{lost_at_end}
use Rattle.borrow_scopes.proofs.scopes.add_lost.Given as goal

abbrev pub invariant-loop-scope : goal.invariant-loop-scope
invariant-loop-scope l = l.entries.items ≡ l.initial.entries.items ++ map lost_at_end (take l.scope-index l.lost)
