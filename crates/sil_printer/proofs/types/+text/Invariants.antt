-- The elements so far stand in the text, with a comma between two.
use Rattle.std.proofs.Common.{◌≡◌, ◌++◌, take}
use Rattle.sil_printer.specs.Words.{listed}
use Rattle.sil_printer.specs.CanonicalTypes.{type_text}
use Rattle.sil_printer.proofs.types.+text.Given as goal

abbrev pub invariant-push_tuple-loop-i : goal.invariant-push_tuple-loop-i
invariant-push_tuple-loop-i l = l.out.items ≡ l.initial.out.items ++ listed type_text (take l.i l.elements)
