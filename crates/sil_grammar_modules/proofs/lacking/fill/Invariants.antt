-- The same values wait.
use Rattle.std.proofs.Common.{◌≡◌, length, reverse}
use Rattle.sil_grammar_modules.specs.inner.Lacking.{waiting}
use Rattle.sil_grammar_modules.proofs.lacking.fill.Given as goal

abbrev pub invariant-loop-alloc : goal.invariant-loop-alloc
invariant-loop-alloc l = waiting l.values (reverse l.left.items) ≡ waiting l.initial.values (reverse l.initial.left.items)

abbrev pub decreases-loop-alloc : goal.decreases-loop-alloc
decreases-loop-alloc l = length l.left.items
