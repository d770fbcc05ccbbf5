-- The items so far stand in the text, with a comma between two.
use Rattle.std.proofs.Common.{◌≡◌, ◌++◌, take}
use Rattle.sil_printer.specs.Words.{listed}
use Rattle.sil_printer.proofs.pieces.push_listed.Given as goal

abbrev pub invariant-loop-i : goal.invariant-loop-i
invariant-loop-i g l = l.out.items ≡ l.initial.out.items ++ listed g.T.Canonical.text (take l.i l.items)
