use Rattle.std.proofs.Common.{◌≡◌, ℕ, ◌<◌, length}
use Rattle.number_tables.specs.ContainmentOrder.Chains.{IsCyclic}
use Rattle.number_tables.proofs.containment_order.rings.first_on_ring.Given as goal

abbrev pub invariant-loop-value : goal.invariant-loop-value
invariant-loop-value l = (length l.marks.items ≡ length l.graph) × ((v : ℕ) → v < l.value → IsCyclic l.graph v → ⊥)
