-- The law of loans: in a run of an accepted module steps keep what open scopes lend.
use Rattle.sil_ast.specs.declared.module.Module.{Module}
use Rattle.sil_verifier_frames.specs.sil_verifier_accepted.AcceptedModules.inner.Checked.{IsVerified}
use Rattle.sil_verifier_frames.specs.inner.Placed.PlaceStates.{AreSlotsRight}
use Rattle.sil_verifier_runs.specs.inner.Loans.Loans.{loans_of}
use Rattle.sil_verifier_runs.specs.inner.Guarded.LoansKept.{LoansAreKept}

abbrev pub AreLoansKept : Type 0
AreLoansKept = (m : Module) → IsVerified m → LoansAreKept m (loans_of m) (AreSlotsRight m)
