use Rattle.std.proofs.Common.{◌≡◌, ◌++◌, drop, reverse}
use Rattle.sil_grammar_tables.specs.Rows.{parts_row}
use Rattle.sil_grammar_tables.proofs.rows.push_row.Given as goal

abbrev pub invariant-loop-i : goal.invariant-loop-i
invariant-loop-i l = reverse l.stack.items ≡ parts_row l.op (drop l.i l.parts) ++ reverse l.initial.stack.items
