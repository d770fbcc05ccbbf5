use Rattle.std.proofs.Common.{◌≡◌, take, true}
use Rattle.std.specs.List.{list_all}
use Rattle.number_tables.specs.ContainmentOrder.inner.Settling.{is_marked}
use Rattle.number_tables.proofs.containment_order.settle.are_marked.Given as goal

abbrev pub invariant-loop-part : goal.invariant-loop-part
invariant-loop-part l = list_all (is_marked l.marks) (take l.part-index l.parts) ≡ true
