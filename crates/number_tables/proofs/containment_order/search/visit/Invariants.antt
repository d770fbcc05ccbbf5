use Rattle.std.proofs.Common.{take}
use Rattle.number_tables.specs.ContainmentOrder.inner.Search.{Visits}
use Rattle.number_tables.proofs.containment_order.search.visit.Given as goal

abbrev pub invariant-loop-part : goal.invariant-loop-part
invariant-loop-part l = Visits (take l.part-index l.parts) l.initial.marks l.initial.stack.items l.marks l.stack.items
