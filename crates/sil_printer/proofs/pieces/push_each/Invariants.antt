-- The items so far stand in the text, each behind its bytes.
use Rattle.std.proofs.Common.{◌≡◌, ◌++◌, take}
use Rattle.sil_printer.specs.Words.{each_behind}
use Rattle.sil_printer.proofs.pieces.push_each.Given as goal

abbrev pub invariant-loop-item : goal.invariant-loop-item
invariant-loop-item g l = l.out.items ≡ l.initial.out.items ++ each_behind l.lead g.T.Canonical.text (take l.item-index l.items)
