use Rattle.std.proofs.Common.{◌≡◌, ◌++◌, map, take}
use Rattle.sil_cfg_items.specs.Items.{arg_value}
use Rattle.sil_cfg_items.proofs.items.add_args.Given as goal

abbrev pub invariant-loop-arg : goal.invariant-loop-arg
invariant-loop-arg l = l.defined.items ≡ l.initial.defined.items ++ map arg_value (take l.arg-index l.args)
