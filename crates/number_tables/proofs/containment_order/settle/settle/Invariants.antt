use Rattle.std.proofs.Common.{◌≡◌, ℕ, ◌+◌, ◌*◌, ◌<◌, length, false, cond, not}
use Rattle.std.specs.Prelude.{count_by}
use Rattle.number_tables.specs.ContainmentOrder.inner.Settling.{Settles, IsStuck}
use Rattle.number_tables.proofs.containment_order.settle.settle.Given as goal

abbrev pub invariant-loop-moved : goal.invariant-loop-moved
invariant-loop-moved l = Settles l.graph l.marks l.order.items × (l.moved ≡ false → (v : ℕ) → v < length l.graph → IsStuck l.graph l.marks v)

abbrev pub decreases-loop-moved : goal.decreases-loop-moved
decreases-loop-moved l = 2 * count_by not l.marks + cond l.moved 1 0
