use Rattle.std.proofs.Common.{◌+◌, length, not}
use Rattle.std.specs.Prelude.{count_by}
use Rattle.number_tables.specs.ContainmentOrder.inner.Search.{Searches}
use Rattle.number_tables.proofs.containment_order.search.reach.Given as goal

abbrev pub invariant-loop-value : goal.invariant-loop-value
invariant-loop-value l = Searches l.graph l.from l.marks l.stack.items

abbrev pub decreases-loop-value : goal.decreases-loop-value
decreases-loop-value l = count_by not l.marks + length l.stack.items
