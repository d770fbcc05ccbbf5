-- A row spares the parts of places: those that frames were given keep their cells, and none is written for the first time. Written types tell the rest
-- of `PlacesTold`.
use Rattle.std.specs.Prelude.{◌≡◌, List, [], ◌∷◌, Some, false, is_some, true}
use Rattle.sil_ast.specs.declared.function.Function.{Function}
use Rattle.sil_ast.specs.declared.inst.Inst.{Inst}
use Rattle.sil_ast.specs.declared.module.Module.{Module}
use Rattle.holder_model_values.specs.RunValues.Places.{Place, emptied, removed}
use Rattle.holder_model_values.specs.RunValues.Shapes.{storage_in}
use Rattle.holder_model_values.specs.RunValues.Values.{Value}
use Rattle.sil_verifier_runs.specs.sil_verifier_values.inner.Known.{IsAcceptedBody}
use Rattle.sil_verifier_runs.specs.holder_model.Data.{AddressOf, ValueOf}
use Rattle.sil_verifier_runs.specs.holder_model.Effects.{effect_of}
use Rattle.sil_verifier_runs.specs.holder_model.Frames.{Frame, Operands}
use Rattle.sil_verifier_runs.specs.holder_model.HolderStates.{HolderState}
use Rattle.sil_verifier_runs.specs.holder_model.States.{Task}
use Rattle.sil_verifier_runs.specs.holder_model.declared.row_effect.RowEffect.TheVariants as row
use Rattle.memory_rules_accesses.specs.declared.access.Operation.TheVariants as operation
use Rattle.sil_verifier_runs.specs.holder_model.LoweredRun.LowStepParts.{LowState}
use Rattle.sil_verifier_runs.specs.sil_verifier_frames.inner.Typed.TypedStates.{FrameIs}
use Rattle.ownership_lowering_laws.specs.holder_model_typing.TypedMemory.inner.Worlds.{World}
use Rattle.ownership_lowering_runs.specs.StoredRuns.inner.PlaceRows.{StandsAt}
use Rattle.ownership_lowering_runs.specs.StoredRuns.inner.RowsRight.{ArePartsFull, operation_done}
use Rattle.ownership_lowering_runs.specs.StoredRuns.inner.TypedRows.{PlacesTold}

pub record SparesParts (m : Module) (s : HolderState) (l : LowState) (frame : Frame) (f : Function) (i : Inst) (ops : Operands) : Type 0 where
  -- storage that is emptied, and a slot that goes, have no cell of a part that a frame was given
  pub emptied : (y : Place) → ops.given ≡ AddressOf y ∷ [] → is_some (storage_in y.shape) ≡ true → ArePartsFull m s l frame f i ops (emptied l.memory y)
  pub removed : (y : Place) → ops.given ≡ AddressOf y ∷ [] → effect_of i.op ≡ row.RemovesSlot → ArePartsFull m s l frame f i ops (removed l.memory y)
  -- a part isn't written for the first time
  pub whole : (w : Value) (y : Place) → ops.given ≡ ValueOf w ∷ AddressOf y ∷ [] → operation_done m s l frame f i ops ≡ Some operation.FirstWrite
      → y.is_part ≡ false

abbrev pub ArePlacesTold : Type 0
ArePlacesTold = (m : Module) (s : HolderState) (l : LowState) (w : World) (frame : Frame) (rest : List (Task Frame)) (f : Function) (i : Inst) (ops : Operands)
    → IsAcceptedBody m frame.function.0 f → FrameIs m w f frame → StandsAt m s l frame rest f i ops → SparesParts m s l frame f i ops
    → PlacesTold m s l frame f i ops
