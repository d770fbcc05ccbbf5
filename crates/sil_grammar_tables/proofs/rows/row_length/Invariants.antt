use Rattle.std.proofs.Common.{◌≡◌, ◌+◌, drop, length}
use Rattle.sil_grammar_tables.specs.Rows.{parts_row, row_body}
use Rattle.sil_grammar_tables.proofs.rows.row_length.Given as goal

abbrev pub invariant-loop-i : goal.invariant-loop-i
invariant-loop-i l = l.length + length (parts_row l.op (drop l.i l.parts)) ≡ length (row_body l.op)
