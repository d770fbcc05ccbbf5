-- The pairs so far are the same.
use Rattle.std.proofs.Common.{◌≡◌, drop}
use Rattle.sil_types.specs.Typing.Same.{all_pairs, is_same_given}
use Rattle.sil_types.proofs.same.same_results.Given as goal

abbrev pub invariant-loop-i : goal.invariant-loop-i
invariant-loop-i l = all_pairs is_same_given l.a l.b ≡ all_pairs is_same_given (drop l.i l.a) (drop l.i l.b)
