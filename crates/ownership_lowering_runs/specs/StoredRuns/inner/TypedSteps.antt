-- Steps of typed states whose first frame stands at a terminator or a call, and calls of deinitialisers: the lowered run goes along.
use Rattle.std.specs.Prelude.{◌≡◌, ℕ, List, [], ◌∷◌, false, Some, None, Ok, slice_get}
use Rattle.instruction_table.specs.Forms.{ending_of}
use Rattle.instruction_table.specs.declared.entries.Ending.TheVariants as ending
use Rattle.instruction_table.specs.declared.op.Op.TheVariants as op
use Rattle.sil_ast.specs.declared.function.Function.{Function}
use Rattle.sil_ast.specs.declared.inst.Inst.{Inst}
use Rattle.sil_ast.specs.declared.module.Module.{Module}
use Rattle.sil_ast.specs.declared.place.FuncId.{FuncId}
use Rattle.sil_ast.specs.declared.place.ObjectId.{ObjectId}
use Rattle.sil_cfg.specs.declared.item.Item.TheVariants as item
use Rattle.sil_cfg_items.specs.Items.{item_taken}
use Rattle.sil_cfg_items.specs.Parts.{inst_at, terminator_of}
use Rattle.holder_model_values.specs.RunValues.Values as value
use Rattle.holder_model_values.specs.RunValues.Values.{Value}
use Rattle.sil_verifier_runs.specs.sil_verifier_accepted.AcceptedModules.inner.Checked.{IsVerified}
use Rattle.sil_verifier_runs.specs.holder_model.Calling.{holds_something}
use Rattle.sil_verifier_runs.specs.holder_model.Data.{Datum, ValueOf, as_value}
use Rattle.sil_verifier_runs.specs.holder_model.Effects.{only}
use Rattle.sil_verifier_runs.specs.holder_model.Frames.{Frame, Operands, operands_of}
use Rattle.sil_verifier_runs.specs.holder_model.HolderStates.{HolderNext, HolderState}
use Rattle.sil_verifier_runs.specs.holder_model.ModuleFacts.{facts_of, facts_told}
use Rattle.sil_verifier_runs.specs.holder_model.Standing.{stands_at}
use Rattle.sil_verifier_runs.specs.holder_model.States.{Finishes, Runs, Task}
use Rattle.sil_verifier_runs.specs.holder_model.Steps as holder_run
use Rattle.sil_verifier_runs.specs.holder_model.LoweredRun.LowStepParts.{LowState}
use Rattle.sil_verifier_runs.specs.holder_model_laws.HolderLaws.inner.Steps.Ways as holder
use Rattle.sil_verifier_runs.specs.sil_verifier_frames.inner.Typed.TypedStates.{IsTypedState}
use Rattle.ownership_lowering_runs.specs.StoredRuns.inner.Along.{IsNoFault}
use Rattle.ownership_lowering_runs.specs.StoredRuns.inner.Awaited.{AreAwaited}
use Rattle.ownership_lowering_runs.specs.StoredRuns.inner.CallsAlong.{HandsFullParts}
use Rattle.ownership_lowering_runs.specs.StoredRuns.inner.FrameSteps.{StepsAlong}
use Rattle.ownership_lowering_runs.specs.StoredRuns.inner.Returned.{AreCountsReturned}
use Rattle.ownership_lowering_runs.specs.StoredRuns.inner.States.{IsStateFor}

-- a typed state, and one of the lowered run that goes along
pub record IsTypedFor (m : Module) (s : HolderState) (l : LowState) : Type 0 where
  pub verified : IsVerified m
  pub related : IsStateFor m s l
  pub typed : IsTypedState m s
  pub awaited : AreAwaited m s.tasks

-- the value that is returned at the end of the run is counted
abbrev pub ReturnsCounted : Module → HolderState → LowState → Frame → Function → Type 0
ReturnsCounted m s l frame f = (t : Inst) (ops : Operands) (x : Datum) (v : Value)
    → terminator_of f (stands_at f frame.trail).block.0 ≡ Some t → ending_of t.op ≡ ending.Return
    → operands_of (facts_told (facts_of m) frame.function) s.memory frame.entries (item_taken f (item.Exit (stands_at f frame.trail))) ≡ Ok ops
    → only ops.given ≡ Some x → as_value x ≡ Some v → holds_something ops.left ≡ false → AreCountsReturned s l v

-- at a terminator. Where the last frame returns, the stored numbers have to be those that the run tells of
abbrev pub TypedEndsStep : Type 0
TypedEndsStep = (m : Module) (bound : ℕ) (s : HolderState) (l : LowState) (frame : Frame) (rest : List (Task Frame)) (f : Function) (next : HolderNext)
    → IsTypedFor m s l → s.tasks ≡ Runs frame ∷ rest → slice_get m.functions frame.function.0 ≡ Some f
    → inst_at f (stands_at f frame.trail) ≡ None
    → (rest ≡ [] → ReturnsCounted m s l frame f)
    → holder.Acts m (facts_of m) bound s rest frame f next → IsNoFault next → StepsAlong m bound l next

-- at a call. A part that is handed over has to be full
abbrev pub TypedCallsStep : Type 0
TypedCallsStep = (m : Module) (bound : ℕ) (s : HolderState) (l : LowState) (frame : Frame) (rest : List (Task Frame)) (f : Function) (i : Inst)
    (ops : Operands) (next : HolderNext)
    → IsTypedFor m s l → s.tasks ≡ Runs frame ∷ rest → slice_get m.functions frame.function.0 ≡ Some f
    → inst_at f (stands_at f frame.trail) ≡ Some i → i.op ≡ op.Apply
    → operands_of (facts_told (facts_of m) frame.function) s.memory frame.entries (item_taken f (item.Inst (stands_at f frame.trail))) ≡ Ok ops
    → HandsFullParts m bound s frame f i ops
    → holder.Performs m (facts_of m) bound s rest (holder.left_with m (facts_of m) bound frame ops) f (item.Inst (stands_at f frame.trail))
    (holder_run.effect_in m (facts_of m) bound s frame i ops.given) next
    → IsNoFault next → StepsAlong m bound l next

-- a deinitialiser that waits is called
abbrev pub TypedDeinitsStep : Type 0
TypedDeinitsStep = (m : Module) (bound : ℕ) (s : HolderState) (l : LowState) (g : FuncId) (gs : List FuncId) (o : ObjectId) (rest : List (Task Frame))
    (f : Function) (next : HolderNext)
    → IsTypedFor m s l → s.tasks ≡ Finishes (g ∷ gs) o ∷ rest → slice_get m.functions g.0 ≡ Some f
    → holder.Enters m (facts_of m) bound (record s { tasks = Finishes gs o ∷ rest }) (Finishes gs o ∷ rest) g f (ValueOf (value.Object o) ∷ []) next
    → IsNoFault next → StepsAlong m bound l next
