-- Nothing is shown in the functions so far.
use Rattle.std.proofs.Common.{◌≡◌}
use Rattle.sil_verifier.proofs.Functions.{IsCleanBefore}
use Rattle.sil_verifier.proofs.values.check_values.Given as goal

abbrev pub invariant-loop-function : goal.invariant-loop-function
invariant-loop-function l = (l.number ≡ l.function-index) × IsCleanBefore l.m l.number
