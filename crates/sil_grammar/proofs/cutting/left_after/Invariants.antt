-- For `left_after`: the steps that are to come lead from here to where all steps lead.
use Rattle.std.proofs.Common.{◌≡◌, drop, reverse}
use Rattle.sil_grammar_shape.specs.Derivation.{start}
use Rattle.sil_grammar.specs.inner.Left.{left_after}
use Rattle.sil_grammar.proofs.cutting.left_after.Given as goal

abbrev pub invariant-loop-i : goal.invariant-loop-i
invariant-loop-i l = left_after (drop l.i l.steps) (reverse l.stack.items) ≡ left_after l.steps start
