use Rattle.std.proofs.Common.{◌≡◌, ◌++◌, map, take}
use Rattle.value_availability.specs.Accesses.{defined}
use Rattle.value_availability.proofs.accesses.add_results.Given as goal

abbrev pub invariant-loop-value : goal.invariant-loop-value
invariant-loop-value l = l.entries.items ≡ l.initial.entries.items ++ map defined (take l.value-index l.results)
