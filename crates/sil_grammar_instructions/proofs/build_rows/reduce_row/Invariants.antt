-- The parts before this one are put where the instruction has them.
use Rattle.std.proofs.Common.{drop}
use Rattle.sil_grammar_instructions.proofs.RowLemmas.{Put}
use Rattle.sil_grammar_instructions.proofs.build_rows.reduce_row.Given as goal

abbrev pub invariant-loop-i : goal.invariant-loop-i
invariant-loop-i l = Put l.op l.fn.values (drop l.i l.parts) l.values l.inst l.fault
