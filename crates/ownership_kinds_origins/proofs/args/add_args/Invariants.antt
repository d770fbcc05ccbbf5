use Rattle.std.proofs.Common.{◌≡◌, ◌++◌, take, map}
use Rattle.ownership_kinds_origins.specs.Origins.{arg_definition}
use Rattle.ownership_kinds_origins.proofs.args.add_args.Given as goal

abbrev pub invariant-loop-arg : goal.invariant-loop-arg
invariant-loop-arg l = l.defs ≡ l.initial.defs ++ map (arg_definition l.table l.entry l.switched) (take l.arg-index l.args)
