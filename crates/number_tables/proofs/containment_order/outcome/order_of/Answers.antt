use Rattle.number_tables.proofs.ContainmentOrder.RingLemmas.{in_order}
use Rattle.number_tables.proofs.containment_order.outcome.order_of.Goals as goal

pub returns : goal.returns
returns c =
    in_order c.args.graph.now c.settle.new.marks c.settle.new.order.items c.requires.range c.in_ok-settle.ensures.settles c.in_ok-settle.ensures.stuck c.requires.none
