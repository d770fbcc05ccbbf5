use Rattle.std.proofs.Common.{◌<◌, take, get_or}
use Rattle.std.specs.Prelude.{All}
use Rattle.number_tables.proofs.containment_order.ranks.are_above.Given as goal

abbrev pub invariant-loop-part : goal.invariant-loop-part
invariant-loop-part l = All (λ w. l.rank < get_or l.ranks w 0) (take l.part-index l.parts)
