-- The items so far stand in the text, each on its line.
use Rattle.std.proofs.Common.{◌≡◌, ◌++◌, take}
use Rattle.sil_printer.specs.Words.{indented}
use Rattle.sil_printer.proofs.pieces.push_indented.Given as goal

abbrev pub invariant-loop-item : goal.invariant-loop-item
invariant-loop-item g l = l.out.items ≡ l.initial.out.items ++ indented g.T.Canonical.text (take l.item-index l.items)
