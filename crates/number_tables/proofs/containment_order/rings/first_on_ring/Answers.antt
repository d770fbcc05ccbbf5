use Rattle.std.proofs.Common.{arith}
use Rattle.number_tables.proofs.ContainmentOrder.RingLemmas.{cyclic_inside}
use Rattle.number_tables.proofs.containment_order.rings.first_on_ring.Goals as goal

pub returns-clause-none : goal.returns-clause-none
returns-clause-none c = cyclic_inside c.args.graph.now (λ v lt. c.loop-value.invariant.1 v (omega arith))
