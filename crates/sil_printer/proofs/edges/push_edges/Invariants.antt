-- The edges so far stand in the text, with a comma between two.
use Rattle.std.proofs.Common.{◌≡◌, ◌++◌, take}
use Rattle.sil_printer.specs.Words.{listed}
use Rattle.sil_printer.specs.CanonicalInsts.{edge_text}
use Rattle.sil_printer.proofs.edges.push_edges.Given as goal

abbrev pub invariant-loop-i : goal.invariant-loop-i
invariant-loop-i l = l.out.items ≡ l.initial.out.items ++ listed (edge_text l.op) (take l.i l.edges)
