-- States of a run by holders of an accepted module: what holds of each state that a run comes to.
use Rattle.sil_ast.specs.declared.module.Module.{Module}
use Rattle.sil_verifier_frames.specs.holder_model.HolderStates.{HolderState}
use Rattle.sil_verifier_frames.specs.inner.Typed.TypedStates.{IsTypedState}
use Rattle.sil_verifier_frames.specs.inner.Tracked.TrackedStates.{IsTrackedState}
use Rattle.sil_verifier_frames.specs.inner.Placed.PlaceStates.{AreSlotsRight}
use Rattle.sil_verifier_runs.specs.inner.Built.Said.{said}
use Rattle.sil_verifier_frames.specs.holder_model_laws.HolderLaws.inner.Held.ObjectStates.{AreObjectsRight}
use Rattle.sil_verifier_runs.specs.inner.Guarded.GuardedStates.{IsGuardedState}
use Rattle.sil_verifier_runs.specs.inner.Loans.Loans.{loans_of}

pub record IsRightState (m : Module) (s : HolderState) : Type 0 where
  -- entries, memory and tasks have the shapes of their types
  pub typed : IsTypedState m s
  -- in each frame the entries go along with the trail
  pub tracked : IsTrackedState m s
  -- and so do its places on the stack
  pub placed : AreSlotsRight m s
  -- objects are whole, but for those that frames are building as their trails say
  pub built : AreObjectsRight m (said m) s
  -- what lent entries name is held, and what is dead isn't
  pub guarded : IsGuardedState m (loans_of m) s
