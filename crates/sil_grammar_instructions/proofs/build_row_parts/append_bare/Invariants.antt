-- The operands so far, and those of the names that are left, are all operands.
use Rattle.std.proofs.Common.{◌≡◌, ◌++◌, ◌+◌, map, length}
use Rattle.sil_grammar_values.specs.inner.RowMeaning.{bare_operand}
use Rattle.sil_grammar_instructions.proofs.build_row_parts.append_bare.Given as goal

abbrev pub invariant-loop-i : goal.invariant-loop-i
invariant-loop-i l = (l.operands ++ map bare_operand l.names ≡ l.initial.operands ++ map bare_operand l.fn.names) × (length l.names + l._i ≡ length l.fn.names)
