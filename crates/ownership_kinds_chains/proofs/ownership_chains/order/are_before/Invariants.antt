use Rattle.std.proofs.Common.{◌<◌, take}
use Rattle.std.specs.Prelude.{All}
use Rattle.ownership_kinds_chains.proofs.ownership_chains.order.are_before.Given as goal

abbrev pub invariant-loop-value : goal.invariant-loop-value
invariant-loop-value l = All (λ w. w.0 < l.number) (take l.value-index l.values)
