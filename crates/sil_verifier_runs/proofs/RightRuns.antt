-- The parts of the invariant together, and what follows for runs.
use Rattle.std.proofs.Common.{◌≡◌, refl, ◌∙◌, Bool, true, false}
use Rattle.std.specs.Prelude.{◌||◌}
use Rattle.std.proofs.lemmas.Bool.{true≢false}
use Rattle.sil_ast.specs.declared.module.Module.{Module}
use Rattle.sil_verifier_frames.specs.holder_model.Faults.{ConsumesLent, EmptyPlace, FullPlace, HolderFault, LeavesHeld, LeavesPlace, LeavesSlot, NamesDead, NoEntry}
use Rattle.sil_verifier_frames.specs.holder_model.Faults.{NotLastSlot, OverwritesHeld, PlaceNotAsAsked, WrongShape}
use Rattle.sil_verifier_frames.specs.holder_model.HolderStates.{HolderState}
use Rattle.sil_verifier_frames.specs.inner.Typed.TypedStates.{IsTypedState}
use Rattle.sil_verifier_frames.proofs.Typed.TypedSteps.{begin_typed, shapes_right, steps_typed}
use Rattle.sil_verifier_frames.specs.inner.Tracked.Laws.{is_entry_fault}
use Rattle.sil_verifier_frames.specs.inner.Tracked.TrackedStates.{IsTrackedState}
use Rattle.sil_verifier_frames.proofs.Tracked.Begun.{begin_tracked}
use Rattle.sil_verifier_frames.proofs.Tracked.TrackedSteps.{entries_are_right, steps_are_tracked}
use Rattle.sil_verifier_frames.specs.inner.Placed.Items.{is_place_fault}
use Rattle.sil_verifier_frames.specs.inner.Placed.Laws.{ArePlacesKept, NoPlaceFaults}
use Rattle.sil_verifier_frames.specs.inner.Placed.PlaceStates.{AreSlotsRight}
use Rattle.sil_verifier_frames.proofs.Placed.ItemsPlaced.{items_placed}
use Rattle.sil_verifier_frames.proofs.Placed.PlacedSteps.{begin_placed, no_place_faults, places_kept}
use Rattle.sil_verifier_frames.proofs.Placed.TrailsSo.{trail_laws}
use Rattle.sil_verifier_frames.proofs.Placed.TypingSo.{typing_laws}
use Rattle.sil_verifier_runs.specs.inner.Built.Said.{said}
use Rattle.sil_verifier_runs.proofs.Built.BuiltSteps.{begin_built, objects_kept}
use Rattle.sil_verifier_runs.proofs.Built.Found.{find_fields}
use Rattle.sil_verifier_frames.specs.holder_model_laws.HolderLaws.inner.Held.ObjectStates.{AreObjectsRight}
use Rattle.sil_verifier_runs.specs.inner.Guarded.GuardedStates.{IsGuardedState}
use Rattle.sil_verifier_runs.specs.inner.Guarded.Laws.{is_dead_fault}
use Rattle.sil_verifier_runs.specs.inner.Loans.Loans.{loans_of}
use Rattle.sil_verifier_runs.proofs.Loans.Kept.{loans_kept}
use Rattle.sil_verifier_runs.proofs.GuardedRuns.{guarded_kept}
use Rattle.sil_verifier_runs.proofs.PlacesServe.{places_serve}
use Rattle.sil_verifier_runs.specs.inner.Kept.{IsKept}
use Rattle.sil_verifier_runs.specs.inner.Laws.{AreStatesRight, NoOutcomeFaults, NoRunFaults}
use Rattle.sil_verifier_runs.specs.inner.RightStates.{IsRightState}
use Rattle.sil_verifier_runs.proofs.KeptOnRuns.{And, Nothing, both_kept, outcomes_exclude, runs_exclude, states_hold}

abbrev pub is_shape_fault : HolderFault → Bool
is_shape_fault NoEntry = false
is_shape_fault ConsumesLent = false
is_shape_fault NamesDead = false
is_shape_fault EmptyPlace = false
is_shape_fault FullPlace = false
is_shape_fault PlaceNotAsAsked = false
is_shape_fault NotLastSlot = false
is_shape_fault OverwritesHeld = false
is_shape_fault LeavesHeld = false
is_shape_fault LeavesSlot = false
is_shape_fault LeavesPlace = false
is_shape_fault WrongShape = true

another_shape : (x : HolderFault) → (x ≡ WrongShape → ⊥) → is_shape_fault x ≡ false
another_shape NoEntry other = refl
another_shape ConsumesLent other = refl
another_shape NamesDead other = refl
another_shape EmptyPlace other = refl
another_shape FullPlace other = refl
another_shape PlaceNotAsAsked other = refl
another_shape NotLastSlot other = refl
another_shape OverwritesHeld other = refl
another_shape LeavesHeld other = refl
another_shape LeavesSlot other = refl
another_shape LeavesPlace other = refl
another_shape WrongShape other = absurd (other refl)

pub typed_kept : IsKept Nothing IsTypedState is_shape_fault
typed_kept = record {
  begin = begin_typed;
  goes = λ m bound s next v before then is by. steps_typed m bound s next v is by;
  faults = λ m bound s last x v before is by. another_shape x (shapes_right m bound s last x v is by);
}

pub tracked_kept : IsKept (And Nothing IsTypedState) IsTrackedState is_entry_fault
tracked_kept = record {
  begin = begin_tracked;
  goes = λ m bound s next v before then is by. steps_are_tracked m bound s next v before.1 is by;
  faults = λ m bound s last x v before is by. entries_are_right m bound s last x v before.1 is by;
}

-- ---- places, on the stack and in objects

abbrev pub IsBuiltState : Module → HolderState → Type 0
IsBuiltState m s = AreObjectsRight m (said m) s

abbrev pub IsLentState : Module → HolderState → Type 0
IsLentState m s = IsGuardedState m (loans_of m) s

places_kept_here : ArePlacesKept
places_kept_here = places_kept trail_laws typing_laws (items_placed trail_laws typing_laws)

no_place_faults_here : NoPlaceFaults
no_place_faults_here = no_place_faults trail_laws typing_laws (items_placed trail_laws typing_laws)

pub placed_kept : IsKept (And (And Nothing IsTypedState) IsTrackedState) (And AreSlotsRight IsBuiltState) is_place_fault
placed_kept = record {
  begin = λ m e f v there may. (begin_placed trail_laws m e f v there may, begin_built m e f v there may);
  goes = λ m bound s next v before then is by.
      (places_kept_here m bound s next v before.0.1 before.1 is.0 by, objects_kept m bound s next v before.0.1 before.1 (places_serve m s v before.0.1 is.0) is.1 by);
  faults = λ m bound s last x v before is by.
      no_place_faults_here m bound s last x v before.0.1 before.1 is.0 (find_fields m bound s v before.0.1 is.1) by;
}

-- ---- dead objects

guarded_kept_here : IsKept (And (And (And Nothing IsTypedState) IsTrackedState) (And AreSlotsRight IsBuiltState)) IsLentState is_dead_fault
guarded_kept_here = guarded_kept loans_of AreSlotsRight IsBuiltState loans_kept

-- ---- all parts

abbrev Parts : Module → HolderState → Type 0
Parts = And IsTypedState (And IsTrackedState (And (And AreSlotsRight IsBuiltState) IsLentState))

abbrev pub by_parts : HolderFault → Bool
by_parts x = is_shape_fault x || (is_entry_fault x || (is_place_fault x || is_dead_fault x))

parts_kept : IsKept Nothing Parts by_parts
parts_kept =
    both_kept Nothing IsTypedState (And IsTrackedState (And (And AreSlotsRight IsBuiltState) IsLentState)) is_shape_fault
    (λ x. is_entry_fault x || (is_place_fault x || is_dead_fault x)) typed_kept
    (both_kept (And Nothing IsTypedState) IsTrackedState (And (And AreSlotsRight IsBuiltState) IsLentState) is_entry_fault
    (λ x. is_place_fault x || is_dead_fault x) tracked_kept
    (both_kept (And (And Nothing IsTypedState) IsTrackedState) (And AreSlotsRight IsBuiltState) IsLentState is_place_fault is_dead_fault placed_kept guarded_kept_here))

parted : (m : Module) (s : HolderState) → IsRightState m s → Parts m s
parted m s is = (is.typed, (is.tracked, ((is.placed, is.built), is.guarded)))

joined : (m : Module) (s : HolderState) → Parts m s → IsRightState m s
joined m s is = record { typed = is.0; tracked = is.1.0; placed = is.1.1.0.0; built = is.1.1.0.1; guarded = is.1.1.1 }

-- each fault is one of these
pub each_excluded : (x : HolderFault) → by_parts x ≡ false → ⊥
each_excluded NoEntry e = true≢false e
each_excluded ConsumesLent e = true≢false e
each_excluded NamesDead e = true≢false e
each_excluded EmptyPlace e = true≢false e
each_excluded FullPlace e = true≢false e
each_excluded PlaceNotAsAsked e = true≢false e
each_excluded NotLastSlot e = true≢false e
each_excluded OverwritesHeld e = true≢false e
each_excluded LeavesHeld e = true≢false e
each_excluded LeavesSlot e = true≢false e
each_excluded LeavesPlace e = true≢false e
each_excluded WrongShape e = true≢false e

pub right_kept : IsKept Nothing IsRightState by_parts
right_kept = record {
  begin = λ m e f v there may. joined m _ (parts_kept.begin m e f v there may);
  goes = λ m bound s next v before then is by. joined m next (parts_kept.goes m bound s next v tt tt (parted m s is) by);
  faults = λ m bound s last x v before is by. parts_kept.faults m bound s last x v tt (parted m s is) by;
}

pub states_are_right : AreStatesRight
states_are_right = states_hold IsRightState by_parts right_kept

pub no_run_faults : NoRunFaults
no_run_faults m e f bound v there may steps s x is = each_excluded x (runs_exclude IsRightState by_parts right_kept m e f bound v there may steps s x is)

pub no_outcome_faults : NoOutcomeFaults
no_outcome_faults m v e f bound there may outcome x so faulted =
    each_excluded x (outcomes_exclude IsRightState by_parts right_kept m e f bound v there may outcome x so faulted)
