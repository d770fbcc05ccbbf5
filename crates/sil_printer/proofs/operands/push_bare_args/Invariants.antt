-- The operands so far stand in the text, with a comma between two.
use Rattle.std.proofs.Common.{◌≡◌, ◌++◌, take}
use Rattle.sil_printer.specs.Words.{listed}
use Rattle.sil_printer.specs.CanonicalInsts.{bare_text}
use Rattle.sil_printer.proofs.operands.push_bare_args.Given as goal

abbrev pub invariant-loop-i : goal.invariant-loop-i
invariant-loop-i l = l.out.items ≡ l.initial.out.items ++ listed bare_text (take l.i l.operands)
