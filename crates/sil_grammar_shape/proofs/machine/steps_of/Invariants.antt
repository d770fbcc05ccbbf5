use Rattle.std.proofs.Common.{take, reverse}
use Rattle.std.specs.Prelude.{None}
use Rattle.sil_grammar_shape.proofs.Reached.{Reached}
use Rattle.sil_grammar_shape.proofs.machine.steps_of.Given as goal

abbrev pub invariant-loop-place : goal.invariant-loop-place
invariant-loop-place l = Reached (take l.place l.classes) (reverse l.stack.items) l.steps.items None
