-- Rows at places of typed states find what they need, but for what places, parts and words in brackets tell.
use Rattle.std.specs.Prelude.{◌≡◌, ◌⊎◌, [], ◌∷◌, Some, None, false, true, is_some, List}
use Rattle.instruction_table.specs.declared.op.Op.TheVariants as op
use Rattle.sil_ast.specs.declared.function.Function.{Function}
use Rattle.sil_ast.specs.declared.inst.Inst.{Inst}
use Rattle.sil_ast.specs.declared.inst.Qualifier.TheVariants as word
use Rattle.sil_ast.specs.declared.module.Module.{Module}
use Rattle.sil_ast.specs.declared.operands.Operand.{Operand}
use Rattle.sil_cfg.specs.declared.item.Item.TheVariants as item
use Rattle.holder_model_values.specs.RunValues.Places.{Place, emptied, removed}
use Rattle.holder_model_values.specs.RunValues.Shapes.{storage_in}
use Rattle.holder_model_values.specs.RunValues.Trivial.{is_trivial}
use Rattle.holder_model_values.specs.RunValues.Values.{Value}
use Rattle.sil_verifier_runs.specs.sil_verifier_trails.AcceptedTrails.inner.Defined.{makes}
use Rattle.sil_verifier_runs.specs.sil_verifier_values.inner.Known.{IsAcceptedBody}
use Rattle.sil_verifier_runs.specs.holder_model.Data.{AddressOf, ValueOf}
use Rattle.sil_verifier_runs.specs.holder_model.Effects.{Change, Makes, effect_of}
use Rattle.sil_verifier_runs.specs.holder_model.Frames.{Frame, Operands}
use Rattle.sil_verifier_runs.specs.holder_model.HolderStates.{HolderState}
use Rattle.sil_verifier_runs.specs.holder_model.States.{Task}
use Rattle.sil_verifier_runs.specs.holder_model.declared.row_effect.RowEffect.TheVariants as row
use Rattle.memory_rules_accesses.specs.declared.access.Operation.TheVariants as operation
use Rattle.sil_verifier_runs.specs.holder_model.LoweredRun.LowStepParts.{LowState}
use Rattle.sil_types.specs.Typing.FormRules.{is_at_storage}
use Rattle.sil_verifier_runs.specs.sil_verifier_frames.inner.Typed.TypedStates.{FrameIs}
use Rattle.ownership_lowering_laws.specs.holder_model_typing.TypedMemory.inner.Worlds.{IsWorldOf, MemoryIs, World}
use Rattle.ownership_lowering_runs.specs.StoredRuns.inner.PlaceRows.{StandsAt}
use Rattle.ownership_lowering_runs.specs.StoredRuns.inner.RowsRight.{ArePartsFull, RowRight, held_effect, is_place_row, operation_done}

pub record PlacesTold (m : Module) (s : HolderState) (l : LowState) (frame : Frame) (f : Function) (i : Inst) (ops : Operands) : Type 0 where
  -- storage that is emptied, and a slot that goes, have no cell of a part that a frame was given
  pub emptied : (y : Place) → ops.given ≡ AddressOf y ∷ [] → is_some (storage_in y.shape) ≡ true → ArePartsFull m s l frame f i ops (emptied l.memory y)
  pub removed : (y : Place) → ops.given ≡ AddressOf y ∷ [] → effect_of i.op ≡ row.RemovesSlot → ArePartsFull m s l frame f i ops (removed l.memory y)
  -- what is deallocated is no argument
  pub own_slot : (o : Operand) → i.operands ≡ o ∷ [] → effect_of i.op ≡ row.RemovesSlot → makes f o.value item.Entry ≡ false
  -- a part isn't written for the first time
  pub whole : (w : Value) (y : Place) → ops.given ≡ ValueOf w ∷ AddressOf y ∷ [] → operation_done m s l frame f i ops ≡ Some operation.FirstWrite
      → y.is_part ≡ false
  -- the word of a store, and `[trivial]` at trivial places alone
  pub words : i.op ≡ op.Store
      → (i.qualifier ≡ word.Init) ⊎ (i.qualifier ≡ word.Assign)
      ⊎ ((i.qualifier ≡ word.Trivial) × ((w : Value) (y : Place) → ops.given ≡ ValueOf w ∷ AddressOf y ∷ [] → is_trivial y.shape ≡ true))
  -- a `store` is at a place that is no storage, and what stores there is a `store`
  pub store_bare : (w : Value) (y : Place) → ops.given ≡ ValueOf w ∷ AddressOf y ∷ [] → i.op ≡ op.Store → storage_in y.shape ≡ None
  pub bare_store : (w : Value) (y : Place) → ops.given ≡ ValueOf w ∷ AddressOf y ∷ [] → effect_of i.op ≡ row.StoresValue → storage_in y.shape ≡ None
      → i.op ≡ op.Store
  -- the written type of what is destroyed
  pub at_storage : (y : Place) → ops.given ≡ AddressOf y ∷ [] → effect_of i.op ≡ row.DestroysPlace → is_at_storage i ≡ is_some (storage_in y.shape)

abbrev pub AreTypedPlaceRows : Type 0
AreTypedPlaceRows = (m : Module) (s : HolderState) (l : LowState) (w : World) (frame : Frame) (rest : List (Task Frame)) (f : Function) (i : Inst)
    (ops : Operands) (c : Change)
    → IsAcceptedBody m frame.function.0 f → IsWorldOf m w → MemoryIs m w s.memory → FrameIs m w f frame → StandsAt m s l frame rest f i ops
    → PlacesTold m s l frame f i ops → is_place_row (effect_of i.op) ≡ true → held_effect m s l frame f i ops ≡ Makes c → RowRight m s l frame f i ops c
