use Rattle.std.proofs.Common.{◌≡◌, ◌++◌, take}
use Rattle.sil_cfg_items.proofs.items.add_results.Given as goal

abbrev pub invariant-loop-value : goal.invariant-loop-value
invariant-loop-value l = l.defined.items ≡ l.initial.defined.items ++ take l.value-index l.results
