use Rattle.std.proofs.Common.{◌≡◌, ◌++◌, map, take}
use Rattle.value_availability.specs.Accesses.{begun}
use Rattle.value_availability.proofs.accesses.add_args.Given as goal

abbrev pub invariant-loop-arg : goal.invariant-loop-arg
invariant-loop-arg l = l.entries.items ≡ l.initial.entries.items ++ map begun (take l.arg-index l.args)
