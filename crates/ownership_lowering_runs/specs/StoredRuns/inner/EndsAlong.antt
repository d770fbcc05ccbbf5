-- A frame stands at the terminator of its block: both runs take an edge, return, or end.
use Rattle.std.specs.Prelude.{◌≡◌, ℕ, List, ◌∷◌, false, Some, None, Ok, length, slice_get}
use Rattle.instruction_table.specs.Forms.{ending_of}
use Rattle.instruction_table.specs.declared.entries.Ending.TheVariants as ending
use Rattle.numbered_form.specs.Lists.{Each}
use Rattle.sil_ast.specs.declared.function.Function.{Function}
use Rattle.sil_ast.specs.declared.inst.Inst.{Inst}
use Rattle.sil_ast.specs.declared.module.Module.{Module}
use Rattle.sil_cfg.specs.declared.item.Item.{Item}
use Rattle.sil_cfg.specs.declared.item.Item.TheVariants as item
use Rattle.sil_cfg_items.specs.Items.{item_taken}
use Rattle.sil_cfg_items.specs.Parts.{inst_at, terminator_of}
use Rattle.sil_types_declarations.specs.TypeDefinitions.Declarations.{declarations_of}
use Rattle.sil_verifier_runs.specs.sil_verifier_trails.RunTrails.inner.RunTrails.{ComesAt, IsTurnedTrail}
use Rattle.sil_verifier_runs.specs.holder_model.Calling.{holds_something}
use Rattle.sil_verifier_runs.specs.holder_model.Data.{Datum}
use Rattle.sil_verifier_runs.specs.holder_model.Effects.{only}
use Rattle.sil_verifier_runs.specs.holder_model.Frames.{Frame, Operands, operands_of}
use Rattle.sil_verifier_runs.specs.holder_model.HolderStates.{HolderNext, HolderState}
use Rattle.sil_verifier_runs.specs.holder_model.ModuleFacts.{facts_of, facts_told}
use Rattle.sil_verifier_runs.specs.holder_model.ModuleShapes.{shapes_of}
use Rattle.sil_verifier_runs.specs.holder_model.Standing.{stands_at}
use Rattle.sil_verifier_runs.specs.holder_model.States.{Runs, Task}
use Rattle.sil_verifier_runs.specs.holder_model.LoweredRun.LowFrames.{LowFrame}
use Rattle.sil_verifier_runs.specs.holder_model.LoweredRun.LowStepParts.{LowNext, LowState}
use Rattle.ownership_lowering_laws.specs.ownership_lowering_model.LoweredModules.{lowered, lowered_body}
use Rattle.sil_verifier_runs.specs.holder_model_laws.HolderLaws.inner.Steps.Ways as holder
use Rattle.sil_verifier_runs.specs.holder_model_laws.LoweredSteps.inner.LowWays as ways
use Rattle.ownership_lowering_runs.specs.StoredRuns.inner.Along.{AreTotalsFor, IsNextAlong, IsNoFault, TakesNoAddress}
use Rattle.ownership_lowering_runs.specs.StoredRuns.inner.Frames.{AreTasksFor, HasFullParts, IsFrameAt}
use Rattle.ownership_lowering_runs.specs.StoredRuns.inner.Lowering.{LowersSo}
use Rattle.ownership_lowering_runs.specs.StoredRuns.inner.Memories.{IsMemoryFor}
use Rattle.ownership_lowering_runs.specs.StoredRuns.inner.Returned.{TakesResult}

-- the item may come next, and takes no address
pub record ComesPlain (m : Module) (s : HolderState) (frame : Frame) (f : Function) (i : Item) : Type 0 where
  pub trail : IsTurnedTrail f (i ∷ frame.trail)
  pub plain : TakesNoAddress m s frame f i

-- what the tasks below owe to what is returned, where nothing is held any more
abbrev pub MayReturnTo : Module → HolderState → LowState → Frame → Function → List (Task Frame) → Type 0
MayReturnTo m s l frame f tasks = (t : Inst) (ops : Operands) (x : Datum)
    → terminator_of f (stands_at f frame.trail).block.0 ≡ Some t → ending_of t.op ≡ ending.Return
    → operands_of (facts_told (facts_of m) frame.function) s.memory frame.entries (item_taken f (item.Exit (stands_at f frame.trail))) ≡ Ok ops
    → only ops.given ≡ Some x → holds_something ops.left ≡ false → TakesResult m s l x tasks

abbrev pub AreEndsAlong : Type 0
AreEndsAlong = (m : Module) (bound : ℕ) (s : HolderState) (l : LowState) (frame : Frame) (rest : List (Task Frame)) (f : Function)
    (low : LowFrame) (lrest : List (Task LowFrame)) (next : HolderNext)
    → AreTotalsFor s l → IsMemoryFor s.memory l.memory → length l.numbers ≡ length s.memory.objects
    → slice_get m.functions frame.function.0 ≡ Some f → LowersSo m frame.function f → IsFrameAt (declarations_of m) f frame low
    → AreTasksFor m rest lrest → Each (HasFullParts m l.memory) (Runs low ∷ lrest)
    → inst_at f (stands_at f frame.trail) ≡ None
    → ((i : Item) → ComesAt f (stands_at f frame.trail) i → ComesPlain m s frame f i)
    → MayReturnTo m s l frame f rest
    → holder.Acts m (facts_of m) bound s rest frame f next → IsNoFault next
    → (low_next : LowNext) × ways.Acts (lowered m) (shapes_of (lowered m)) bound l lrest low (lowered_body (declarations_of m) f) low_next
    × IsNextAlong m l.numbers next low_next
