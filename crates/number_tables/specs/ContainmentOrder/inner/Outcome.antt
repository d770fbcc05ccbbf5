-- What is found of a graph.
use Rattle.number_tables.specs.ContainmentOrder.Chains.{Graph, HasNoRing, IsFirstCyclic}
use Rattle.number_tables.specs.ContainmentOrder.inner.Order.{IsOrder}
use Rattle.number_tables.specs.declared.containment_order.outcome.Containment.{Containment}
use Rattle.number_tables.specs.declared.containment_order.outcome.Containment.TheVariants.{Order, Ring}

-- an order, and then no number holds itself, or the first number that does
abbrev pub IsFound : Graph → Containment → Type 0
IsFound graph (Order order) = IsOrder graph order.items × HasNoRing graph
IsFound graph (Ring v) = IsFirstCyclic graph v
