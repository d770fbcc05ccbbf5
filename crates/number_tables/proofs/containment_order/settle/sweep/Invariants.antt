use Rattle.number_tables.specs.ContainmentOrder.inner.Settling.{Settles, Sweeps}
use Rattle.number_tables.proofs.containment_order.settle.sweep.Given as goal

abbrev pub invariant-loop-value : goal.invariant-loop-value
invariant-loop-value l = Settles l.graph l.marks l.order.items × Sweeps l.graph l.initial.marks l.marks l.value l.moved
