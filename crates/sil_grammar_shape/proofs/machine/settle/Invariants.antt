use Rattle.std.proofs.Common.{reverse}
use Rattle.sil_grammar_shape.specs.inner.Turns.{Turns}
use Rattle.sil_grammar_shape.proofs.Computed.{lead}
use Rattle.sil_grammar_shape.proofs.machine.settle.Given as goal

abbrev pub invariant-loop-part : goal.invariant-loop-part
invariant-loop-part l = Turns l.look.class (reverse l.initial.stack.items) l.initial.steps.items (reverse l.stack.items) l.steps.items

abbrev pub decreases-loop-part : goal.decreases-loop-part
decreases-loop-part l = lead (reverse l.stack.items)
