-- In each function with a body of an accepted module what the next item takes is current.
use Rattle.sil_types_declarations.specs.TypeDefinitions.Declarations.{declarations_of}
use Rattle.sil_verifier_runs.proofs.sil_verifier_trails.AcceptedPremises.MadeAtStops.{made_at_stops}
use Rattle.sil_verifier_runs.proofs.sil_verifier_trails.AcceptedTrails.Unbroken.{are_accepted}
use Rattle.ownership_lowering_runs.specs.StoredRuns.inner.Current.{AreAllCurrent}
use Rattle.ownership_lowering_runs.proofs.StoredRuns.NamesCurrent.{accepted_current}
use Rattle.ownership_lowering_runs.proofs.StoredRuns.NamesTaken.{names_taken}

pub all_current : AreAllCurrent
all_current m n f a = accepted_current (declarations_of m) f (are_accepted m n f a.verified a.body) (names_taken m n f a) (made_at_stops m n f a)
