use Rattle.std.proofs.Common.{◌≡◌, ◌++◌, take, map}
use Rattle.ownership_kinds_origins.specs.Renamings.{arg_renaming}
use Rattle.ownership_kinds_origins.proofs.renamed.add_args.Given as goal

abbrev pub invariant-loop-arg : goal.invariant-loop-arg
invariant-loop-arg l = l.defs ≡ l.initial.defs ++ map (arg_renaming l.switched) (take l._arg-index l.args)
