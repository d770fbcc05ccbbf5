-- What is in the text, with the text of the parts that are left, is the text of all parts.
use Rattle.std.proofs.Common.{◌≡◌, ◌++◌, drop, None}
use Rattle.sil_printer.specs.CanonicalInsts.{parts_text}
use Rattle.sil_printer.proofs.insts.push_parts.Given as goal

abbrev pub invariant-loop-part : goal.invariant-loop-part
invariant-loop-part l =
    l.out.items ++ parts_text l.functions l.inst l.before l.operands (drop l.part-index l.parts)
    ≡ l.initial.out.items ++ parts_text l.functions l.inst None l.inst.operands l.parts
