-- For `count_decided`: no token is taken from here on.
use Rattle.std.proofs.Common.{◌≡◌, drop}
use Rattle.sil_grammar_shape.specs.inner.Values.{takes_of}
use Rattle.sil_grammar.proofs.cutting.count_decided.Given as goal

abbrev pub invariant-loop-i : goal.invariant-loop-i
invariant-loop-i l = takes_of (drop l.i l.steps) ≡ 0
