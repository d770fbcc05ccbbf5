-- The operands so far, and those that are left, are all operands.
use Rattle.std.proofs.Common.{◌≡◌, ◌++◌, ◌+◌, length}
use Rattle.sil_grammar_instructions.proofs.build_row_parts.append.Given as goal

abbrev pub invariant-loop-i : goal.invariant-loop-i
invariant-loop-i l = (l.operands ++ l.more ≡ l.initial.operands ++ l.fn.more) × (length l.more + l._i ≡ length l.fn.more)
