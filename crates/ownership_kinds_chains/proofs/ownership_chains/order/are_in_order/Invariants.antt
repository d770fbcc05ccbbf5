use Rattle.std.proofs.Common.{◌<◌}
use Rattle.std.specs.Prelude.{All}
use Rattle.sil_ast.specs.declared.place.ValueId.{ValueId}
use Rattle.ownership_kinds_chains.specs.OwnershipChains.Chains.{operands_at}
use Rattle.ownership_kinds_chains.proofs.ownership_chains.order.are_in_order.Given as goal

abbrev pub invariant-loop-number : goal.invariant-loop-number
invariant-loop-number l = (v : ValueId) → v.0 < l.number → All (λ w. w.0 < v.0) (operands_at l.defs v)
