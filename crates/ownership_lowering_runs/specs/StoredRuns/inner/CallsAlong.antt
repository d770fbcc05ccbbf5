-- An `apply` in both runs: a function with a body is entered, and one without a body is called for its event.
use Rattle.std.specs.Prelude.{◌≡◌, ℕ, List, ◌∷◌, true, Some, Ok, drop, length, slice_get}
use Rattle.std.specs.List.{AllZip}
use Rattle.argument_conventions.specs.declared.row.Content.TheVariants as content
use Rattle.instruction_table.specs.declared.op.Op.TheVariants as op
use Rattle.numbered_form.specs.Lists.{Each}
use Rattle.sil_ast.specs.declared.function.Function.{Function}
use Rattle.sil_ast.specs.declared.inst.Inst.{Inst}
use Rattle.sil_ast.specs.declared.module.Module.{Module}
use Rattle.sil_ast.specs.declared.place.FuncId.{FuncId}
use Rattle.sil_cfg.specs.Items.{IsItem}
use Rattle.sil_cfg.specs.declared.item.Item.TheVariants as item
use Rattle.sil_cfg_items.specs.Items.{item_defined, item_taken}
use Rattle.sil_cfg_items.specs.Parts.{inst_at}
use Rattle.sil_types_declarations.specs.TypeDefinitions.Declarations.{declarations_of}
use Rattle.holder_model_values.specs.RunValues.Memory.{Memory}
use Rattle.holder_model_values.specs.RunValues.Places.{cells_at}
use Rattle.sil_verifier_runs.specs.sil_verifier_trails.RunTrails.inner.RunTrails.{IsTurnedTrail}
use Rattle.sil_verifier_runs.specs.holder_model.Calling.{are_as_before, lent_places}
use Rattle.sil_verifier_runs.specs.holder_model.Data.{Datum}
use Rattle.sil_verifier_runs.specs.holder_model.Effects as effects
use Rattle.sil_verifier_runs.specs.holder_model.Frames.{Frame, LentPlace, Operands, has_any, operands_of}
use Rattle.sil_verifier_runs.specs.holder_model.HolderStates.{HolderNext, HolderState}
use Rattle.sil_verifier_runs.specs.holder_model.ModuleFacts.{facts_of, facts_told}
use Rattle.sil_verifier_runs.specs.holder_model.ModuleShapes.{shapes_of}
use Rattle.sil_verifier_runs.specs.holder_model.Standing.{stands_at}
use Rattle.sil_verifier_runs.specs.holder_model.States.{Runs, Task}
use Rattle.sil_verifier_runs.specs.holder_model.Steps as holder_run
use Rattle.sil_verifier_runs.specs.holder_model.LoweredRun.LowFrames.{LowFrame}
use Rattle.sil_verifier_runs.specs.holder_model.LoweredRun.LowStepParts.{LowNext, LowState}
use Rattle.ownership_lowering_laws.specs.ownership_lowering_model.LoweredModules.{lowered, lowered_body}
use Rattle.sil_verifier_runs.specs.holder_model_laws.HolderLaws.inner.Steps.Ways as holder
use Rattle.sil_verifier_runs.specs.holder_model_laws.LoweredSteps.inner.LowWays as ways
use Rattle.ownership_lowering_runs.specs.StoredRuns.inner.Along.{AreTotalsFor, IsNextAlong, IsNoFault}
use Rattle.ownership_lowering_runs.specs.StoredRuns.inner.Entering.{IsAddressFor, IsFullPart}
use Rattle.ownership_lowering_runs.specs.StoredRuns.inner.Frames.{AreTasksFor, HasFullParts, IsFrameAt}
use Rattle.ownership_lowering_runs.specs.StoredRuns.inner.Lowering.{LowersSo}
use Rattle.ownership_lowering_runs.specs.StoredRuns.inner.Memories.{IsMemoryFor, MayBeTaken}

-- a place that the callee is to fill keeps no name of weak or unowned storage, and isn't gone
abbrev pub MayBeHandedOver : Memory → LentPlace → Type 0
MayBeHandedOver memory x = x.row.before ≡ content.Empty → Each MayBeTaken (cells_at memory x.place)

-- the places that the call at which the frame stands lends
abbrev pub lent_in : Function → Frame → List Datum → List LentPlace
lent_in f frame args = lent_places (drop 1 (item_taken f (item.Inst (stands_at f frame.trail)))) args

-- what a call hands over to a function with a body
pub record HandsRight (m : Module) (s : HolderState) (frame : Frame) (f : Function) (g : FuncId) (callee : Function) (args : List Datum) : Type 0 where
  pub lowers : LowersSo m g callee
  pub as_many : length args ≡ length (item_defined callee item.Entry)
  -- a part that is handed over is full
  pub full : Each (IsFullPart s.memory) args
  pub taken : Each (MayBeHandedOver s.memory) (lent_in f frame args)
  pub addresses : AllZip (IsAddressFor (declarations_of m) callee) (item_defined callee item.Entry) args

-- so it is of the call that the instruction makes, where each place that is lent holds what is asked
abbrev pub CallsRight : Module → ℕ → HolderState → Frame → Function → Inst → Operands → Type 0
CallsRight m bound s frame f i ops = (g : FuncId) (callee : Function) (args : List Datum)
    → holder_run.effect_in m (facts_of m) bound s frame i ops.given ≡ effects.Calls g args
    → slice_get m.functions g.0 ≡ Some callee → has_any callee.blocks ≡ true → are_as_before s.memory (lent_in f frame args) ≡ true
    → HandsRight m s frame f g callee args

-- a part that the instruction hands over is full, where places hold what is asked
abbrev pub HandsFullParts : Module → ℕ → HolderState → Frame → Function → Inst → Operands → Type 0
HandsFullParts m bound s frame f i ops = (g : FuncId) (callee : Function) (args : List Datum)
    → holder_run.effect_in m (facts_of m) bound s frame i ops.given ≡ effects.Calls g args
    → slice_get m.functions g.0 ≡ Some callee → has_any callee.blocks ≡ true
    → AllZip (IsAddressFor (declarations_of m) callee) (item_defined callee item.Entry) args
    → are_as_before s.memory (lent_in f frame args) ≡ true → Each (IsFullPart s.memory) args

abbrev pub AreCallsAlong : Type 0
AreCallsAlong = (m : Module) (bound : ℕ) (s : HolderState) (l : LowState) (frame : Frame) (rest : List (Task Frame)) (f : Function)
    (low : LowFrame) (lrest : List (Task LowFrame)) (i : Inst) (ops : Operands) (next : HolderNext)
    → AreTotalsFor s l → IsMemoryFor s.memory l.memory → length l.numbers ≡ length s.memory.objects
    → slice_get m.functions frame.function.0 ≡ Some f → LowersSo m frame.function f → IsFrameAt (declarations_of m) f frame low
    → AreTasksFor m rest lrest → Each (HasFullParts m l.memory) (Runs low ∷ lrest)
    → inst_at f (stands_at f frame.trail) ≡ Some i → i.op ≡ op.Apply
    → IsItem f (item.Inst (stands_at f frame.trail)) → IsTurnedTrail f (item.Inst (stands_at f frame.trail) ∷ frame.trail)
    → operands_of (facts_told (facts_of m) frame.function) s.memory frame.entries (item_taken f (item.Inst (stands_at f frame.trail))) ≡ Ok ops
    → CallsRight m bound s frame f i ops
    → holder.Performs m (facts_of m) bound s rest (holder.left_with m (facts_of m) bound frame ops) f (item.Inst (stands_at f frame.trail))
    (holder_run.effect_in m (facts_of m) bound s frame i ops.given) next
    → IsNoFault next
    → (low_next : LowNext) × ways.Acts (lowered m) (shapes_of (lowered m)) bound l lrest low (lowered_body (declarations_of m) f) low_next
    × IsNextAlong m l.numbers next low_next
