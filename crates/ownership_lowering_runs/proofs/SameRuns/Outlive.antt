-- An object that dies has no part that a frame was given: the stack is as it was.
use Rattle.std.proofs.Common.{◌≡◌, take, drop, refl, sym, ap, ◌∙◌, subst}
use Rattle.std.specs.Prelude.{is_some}
use Rattle.sil_verifier_runs.specs.sil_verifier_frames.inner.Placed.PlaceStates.{TasksPlaced}
use Rattle.holder_model_values.specs.RunValues.Cells.{cell_count, in_cells}
use Rattle.holder_model_values.specs.RunValues.Memory.{Memory, object_at, with_object}
use Rattle.holder_model_values.specs.RunValues.Places.{OnStack, Place, home_cells, value_at}
use Rattle.sil_verifier_runs.specs.holder_model.Dropping.{ended}
use Rattle.sil_verifier_runs.specs.sil_verifier_frames.inner.Typed.TypedStates.{TasksAre}
use Rattle.ownership_lowering_runs.specs.SameRuns.inner.InRightStates.{PartsOutlive}
use Rattle.ownership_lowering_runs.proofs.SameRuns.GivenParts.{StaysFull, of_each, parts_stay}

-- another memory with the same stack
value_still : (low low' : Memory) → low'.stack ≡ low.stack → (p : Place) → p.home ≡ OnStack → value_at low' p ≡ value_at low p
value_still low low' same p home =
    ap (λ cells. (in_cells p.shape).value (take (cell_count p.shape) (drop p.first cells)))
    (ap (home_cells low') home ∙ same ∙ sym (ap (home_cells low) home))

pub parts_outlive : PartsOutlive
parts_outlive m bound s verified right l o rest lrest h is none for full =
    let low' : Memory = with_object l.memory o (ended (object_at l.memory o)) in
    parts_stay m verified right.typed.world s.memory l.memory low' rest lrest
    (subst (TasksAre m right.typed.world) is right.typed.tasks).1 (subst (TasksPlaced m s.memory) is right.placed).1
    (of_each (StaysFull m l.memory low')
    (λ frame f there a v given entry p names on_stack home apart full. ap is_some (value_still l.memory low' refl p home) ∙ full) rest) for full
