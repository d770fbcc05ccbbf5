-- None of the functions so far is lowered.
use Rattle.std.proofs.Common.{◌≡◌, drop}
use Rattle.sil_verifier.specs.inner.Lowered.{first_lowered}
use Rattle.sil_verifier.proofs.lowered.first_among.Given as goal

abbrev pub invariant-loop-function : goal.invariant-loop-function
invariant-loop-function l = (first_lowered 0 l.functions ≡ first_lowered l.number (drop l.function-index l.functions)) × (l.number ≡ l.function-index)
