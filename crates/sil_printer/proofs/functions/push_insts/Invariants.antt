-- The instructions so far stand in the text, each on its line.
use Rattle.std.proofs.Common.{◌≡◌, ◌++◌, take}
use Rattle.sil_printer.specs.Words.{indented}
use Rattle.sil_printer.specs.CanonicalInsts.{inst_text}
use Rattle.sil_printer.proofs.functions.push_insts.Given as goal

abbrev pub invariant-loop-inst : goal.invariant-loop-inst
invariant-loop-inst l = l.out.items ≡ l.initial.out.items ++ indented (inst_text l.functions) (take l.inst-index l.insts)
