use Rattle.number_tables.specs.ContainmentOrder.inner.Settling.{Settles}
use Rattle.number_tables.proofs.containment_order.settle.settle_along.Given as goal

abbrev pub invariant-loop-value : goal.invariant-loop-value
invariant-loop-value l = Settles l.graph l.marks l.order.items
