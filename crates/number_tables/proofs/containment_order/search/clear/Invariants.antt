use Rattle.std.proofs.Common.{◌≡◌, ℕ, ◌<◌, get_or, false}
use Rattle.number_tables.proofs.containment_order.search.clear.Given as goal

abbrev pub invariant-loop-mark : goal.invariant-loop-mark
invariant-loop-mark l = (v : ℕ) → v < l.mark-index → get_or l.marks v false ≡ false
