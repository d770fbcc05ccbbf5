-- What the written types of operands say of the places at which an instruction stores or destroys: these are fields of `PlacesTold`.
use Rattle.std.specs.Prelude.{◌≡◌, ◌⊎◌, [], ◌∷◌, None, is_some}
use Rattle.instruction_table.specs.declared.op.Op.TheVariants as op
use Rattle.sil_ast.specs.declared.function.Function.{Function}
use Rattle.sil_ast.specs.declared.inst.Inst.{Inst}
use Rattle.sil_ast.specs.declared.inst.Qualifier.TheVariants as word
use Rattle.sil_ast.specs.declared.module.Module.{Module}
use Rattle.holder_model_values.specs.RunValues.Places.{Place}
use Rattle.holder_model_values.specs.RunValues.Shapes.{storage_in}
use Rattle.holder_model_values.specs.RunValues.Trivial.{is_trivial}
use Rattle.holder_model_values.specs.RunValues.Values.{Value}
use Rattle.sil_verifier_runs.specs.sil_verifier_values.inner.Known.{IsAcceptedBody}
use Rattle.sil_verifier_runs.specs.holder_model.Data.{AddressOf, ValueOf}
use Rattle.sil_verifier_runs.specs.holder_model.Effects.{effect_of}
use Rattle.sil_verifier_runs.specs.holder_model.Frames.{Frame, Operands}
use Rattle.sil_verifier_runs.specs.holder_model.HolderStates.{HolderState}
use Rattle.sil_verifier_runs.specs.holder_model.States.{Task}
use Rattle.sil_verifier_runs.specs.holder_model.declared.row_effect.RowEffect.TheVariants as row
use Rattle.sil_verifier_runs.specs.holder_model.LoweredRun.LowStepParts.{LowState}
use Rattle.sil_types.specs.Typing.FormRules.{is_at_storage}
use Rattle.sil_verifier_runs.specs.sil_verifier_frames.inner.Typed.TypedStates.{FrameIs}
use Rattle.ownership_lowering_laws.specs.holder_model_typing.TypedMemory.inner.Worlds.{World}
use Rattle.ownership_lowering_runs.specs.StoredRuns.inner.PlaceRows.{StandsAt}
use Rattle.std.specs.Prelude.{List, true}

pub record PlacesWritten (i : Inst) (ops : Operands) : Type 0 where
  -- the word of a store, and `[trivial]` at trivial places alone
  pub words : i.op ≡ op.Store
      → (i.qualifier ≡ word.Init) ⊎ (i.qualifier ≡ word.Assign)
      ⊎ ((i.qualifier ≡ word.Trivial) × ((w : Value) (y : Place) → ops.given ≡ ValueOf w ∷ AddressOf y ∷ [] → is_trivial y.shape ≡ true))
  -- a `store` is at a place that is no storage, and what stores there is a `store`
  pub store_bare : (w : Value) (y : Place) → ops.given ≡ ValueOf w ∷ AddressOf y ∷ [] → i.op ≡ op.Store → storage_in y.shape ≡ None
  pub bare_store : (w : Value) (y : Place) → ops.given ≡ ValueOf w ∷ AddressOf y ∷ [] → effect_of i.op ≡ row.StoresValue → storage_in y.shape ≡ None
      → i.op ≡ op.Store
  -- the written type of what is destroyed
  pub at_storage : (y : Place) → ops.given ≡ AddressOf y ∷ [] → effect_of i.op ≡ row.DestroysPlace → is_at_storage i ≡ is_some (storage_in y.shape)

abbrev pub ArePlacesWritten : Type 0
ArePlacesWritten = (m : Module) (s : HolderState) (l : LowState) (w : World) (frame : Frame) (rest : List (Task Frame)) (f : Function) (i : Inst)
    (ops : Operands)
    → IsAcceptedBody m frame.function.0 f → FrameIs m w f frame → StandsAt m s l frame rest f i ops → PlacesWritten i ops
