use Rattle.std.proofs.Common.{ℕ, ◌<◌, ◌≤◌, get_or}
use Rattle.std.specs.Prelude.{All}
use Rattle.number_tables.specs.ContainmentOrder.Chains.{parts_of}
use Rattle.number_tables.proofs.containment_order.ranks.never_fall.Given as goal

abbrev pub invariant-loop-value : goal.invariant-loop-value
invariant-loop-value l = (v : ℕ) → v < l.value → All (λ w. get_or l.ranks v 0 ≤ get_or l.ranks w 0) (parts_of l.graph v)
