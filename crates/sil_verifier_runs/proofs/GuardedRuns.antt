-- Guards are kept, where open scopes keep what they lend: the part of the invariant that excludes dead objects.
use Rattle.sil_ast.specs.declared.module.Module.{Module}
use Rattle.sil_verifier_frames.specs.sil_verifier_accepted.AcceptedModules.inner.Checked.{IsVerified}
use Rattle.sil_verifier_frames.specs.holder_model.HolderStates.{HolderState}
use Rattle.sil_verifier_frames.specs.inner.Typed.TypedStates.{IsTypedState}
use Rattle.sil_verifier_frames.specs.inner.Tracked.TrackedStates.{IsTrackedState}
use Rattle.sil_verifier_runs.specs.inner.Guarded.GuardedStates.{IsGuardedState, Loans}
use Rattle.sil_verifier_runs.specs.inner.Guarded.Laws.{is_dead_fault}
use Rattle.sil_verifier_runs.specs.inner.Guarded.LoansKept.{LoansAreKept}
use Rattle.sil_verifier_runs.proofs.Guarded.Begun.{begin_guarded}
use Rattle.sil_verifier_runs.proofs.Guarded.DeadFaults.{no_dead_faults}
use Rattle.sil_verifier_runs.proofs.Guarded.GuardedSteps.{steps_stay_guarded_where}
use Rattle.sil_verifier_runs.specs.inner.Kept.{IsKept}
use Rattle.sil_verifier_runs.proofs.KeptOnRuns.{And, Nothing}

-- which cells scopes lend may go by the module. Of the places and objects of a state only what holds of its places is needed
module _ (loans : Module → Loans) (Placed Built : Module → HolderState → Type 0) (kept : (m : Module) → IsVerified m → LoansAreKept m (loans m) (Placed m)) where
  abbrev pub Guarded : Module → HolderState → Type 0
  Guarded m s = IsGuardedState m (loans m) s

  pub guarded_kept : IsKept (And (And (And Nothing IsTypedState) IsTrackedState) (And Placed Built)) Guarded is_dead_fault
  guarded_kept = record {
    begin = λ m e f v there may. begin_guarded m (loans m) e f v there may;
    goes = λ m bound s next v before then is by.
        steps_stay_guarded_where m (loans m) (Placed m) bound s next v (kept m v)
        (record { typed = before.0.0.1; tracked = before.0.1; placed = before.1.0 })
        (record { typed = then.0.0.1; tracked = then.0.1; placed = then.1.0 }) is by;
    faults = λ m bound s last x v before is by. no_dead_faults m (loans m) bound s last x v before.0.0.1 before.0.1 is by;
  }
