-- Parts that frames were given stay full where cells are put at a place that is apart, on the stack, from what the frames were given.
use Rattle.std.proofs.Common.{◌≡◌, List, Some, length}
use Rattle.std.specs.Prelude.{slice_get}
use Rattle.numbered_form.specs.Lists.{Each}
use Rattle.sil_verifier_runs.specs.sil_verifier_frames.inner.Placed.FramePlaces.{Names}
use Rattle.sil_verifier_runs.specs.sil_verifier_frames.inner.Placed.PlaceStates.{TasksPlaced}
use Rattle.holder_model_values.specs.RunValues.Cells.{cell_count, Cell}
use Rattle.holder_model_values.specs.RunValues.Memory.{Memory}
use Rattle.holder_model_values.specs.RunValues.Places.{OnStack, Place, with_cells}
use Rattle.sil_ast.specs.declared.function.Function.{Function}
use Rattle.sil_ast.specs.declared.module.Module.{Module}
use Rattle.sil_ast.specs.declared.place.ValueId.{ValueId}
use Rattle.sil_types_declarations.specs.TypeDefinitions.Declarations.{declarations_of}
use Rattle.sil_verifier_runs.specs.sil_verifier_accepted.AcceptedModules.inner.Checked.{IsVerified}
use Rattle.sil_verifier_runs.specs.sil_verifier_values.inner.Known.{IsAcceptedBody}
use Rattle.sil_verifier_runs.specs.holder_model.Frames.{Frame}
use Rattle.sil_verifier_runs.specs.holder_model.States.{Task}
use Rattle.sil_verifier_runs.specs.holder_model.LoweredRun.LowFrames.{LowFrame}
use Rattle.sil_verifier_runs.specs.sil_verifier_frames.inner.Typed.TypedStates.{TasksAre}
use Rattle.ownership_lowering_laws.specs.holder_model_typing.TypedMemory.inner.Worlds.{World}
use Rattle.ownership_lowering_runs.specs.StoredRuns.inner.Frames.{AreTasksFor, HasFullParts, IsGivenPlace}
use Rattle.sil_verifier_runs.specs.holder_model_laws.HolderLaws.inner.Cells.Cells.{AreApart}
use Rattle.ownership_lowering_runs.proofs.SameRuns.SparedPartsCells.{still_full}
use Rattle.ownership_lowering_runs.proofs.SameRuns.GivenParts.{OfFrames, StaysFull, of_weaker, parts_stay}

-- ---- what frames were given

module _ (m : Module) (y : Place) where
  -- the place is apart from each on the stack that the frame was given
  abbrev pub IsApartFrom : Frame → Type 0
  IsApartFrom frame = (f : Function) → slice_get m.functions frame.function.0 ≡ Some f → IsAcceptedBody m frame.function.0 f
      → (v : ValueId) → IsGivenPlace (declarations_of m) f v → (q : Place) → Names frame.entries v q → q.home ≡ OnStack → y.home ≡ OnStack → AreApart q y

  abbrev pub AreApartFrom : List (Task Frame) → Type 0
  AreApartFrom tasks = OfFrames IsApartFrom tasks

module _ (m : Module) (verified : IsVerified m) (w : World) (memory low : Memory) (y : Place) (new : List Cell) (size : length new ≡ cell_count y.shape) where
  abbrev low' : Memory
  low' = with_cells low y new

  stays : (frame : Frame) → IsApartFrom m y frame → StaysFull m low low' frame
  stays frame apart f there a v given entry p names on_stack home like full =
      still_full low y new size p home (λ e. like y (apart f there a v given entry names on_stack e)) full

  pub tasks_still : (tasks : List (Task Frame)) (lows : List (Task LowFrame)) → TasksAre m w tasks → TasksPlaced m memory tasks → AreApartFrom m y tasks
      → AreTasksFor m tasks lows → Each (HasFullParts m low) lows → Each (HasFullParts m low') lows
  tasks_still tasks lows t p apart h k =
      parts_stay m verified w memory low low' tasks lows t p (of_weaker (IsApartFrom m y) (StaysFull m low low') stays tasks apart) h k
