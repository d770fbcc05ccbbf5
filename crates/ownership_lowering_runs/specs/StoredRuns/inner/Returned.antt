-- What is returned reaches the task below in both runs.
use Rattle.std.specs.Prelude.{◌≡◌, ℕ, List, [], ◌∷◌, Some, false, length, slice_get}
use Rattle.instruction_table.specs.declared.op.Op.TheVariants as op
use Rattle.numbered_form.specs.Lists.{Each}
use Rattle.sil_ast.specs.declared.function.Function.{Function}
use Rattle.sil_ast.specs.declared.inst.Inst.{Inst}
use Rattle.sil_ast.specs.declared.module.Module.{Module}
use Rattle.sil_ast.specs.declared.place.ObjectId.{ObjectId}
use Rattle.sil_cfg_items.specs.Parts.{inst_at}
use Rattle.holder_model_values.specs.RunValues.Values.{Value, references_of}
use Rattle.sil_verifier_runs.specs.holder_model.Data.{Datum, as_value, references_in}
use Rattle.sil_verifier_runs.specs.holder_model.Frames.{Frame, any_dead}
use Rattle.sil_verifier_runs.specs.holder_model.HolderStates.{HolderNext, HolderState}
use Rattle.sil_verifier_runs.specs.holder_model.ModuleFacts.{facts_of}
use Rattle.sil_verifier_runs.specs.holder_model.ModuleShapes.{shapes_of}
use Rattle.sil_verifier_runs.specs.holder_model.Outcomes.{returned_holders}
use Rattle.sil_verifier_runs.specs.holder_model.Standing.{stands_at}
use Rattle.sil_verifier_runs.specs.holder_model.States.{Drops, Finishes, Runs, Task}
use Rattle.sil_verifier_runs.specs.holder_model.LoweredRun.LowFrames.{LowFrame}
use Rattle.sil_verifier_runs.specs.holder_model.LoweredRun.LowStepParts.{LowNext, LowState}
use Rattle.sil_verifier_runs.specs.holder_model.LoweredRun.Stored.{numbers_of}
use Rattle.ownership_lowering_laws.specs.ownership_lowering_model.LoweredModules.{lowered}
use Rattle.sil_verifier_runs.specs.holder_model_laws.HolderLaws.inner.Steps.Ways as holder
use Rattle.sil_verifier_runs.specs.holder_model_laws.LoweredSteps.inner.LowWays as ways
use Rattle.ownership_lowering_runs.specs.StoredRuns.inner.Along.{AreTotalsFor, IsNextAlong, IsNoFault}
use Rattle.ownership_lowering_runs.specs.StoredRuns.inner.Frames.{AreTasksFor, HasFullParts}
use Rattle.ownership_lowering_runs.specs.StoredRuns.inner.Lowering.{LowersSo}
use Rattle.ownership_lowering_runs.specs.StoredRuns.inner.Memories.{IsMemoryFor}

-- a frame that waits stands at a call
pub record WaitsAtCall (f : Function) (frame : Frame) : Type 0 where
  pub call : Inst
  pub here : inst_at f (stands_at f frame.trail) ≡ Some call
  pub is : call.op ≡ op.Apply

-- the stored numbers are what a run tells of its objects when it has returned the value
abbrev pub AreCountsReturned : HolderState → LowState → Value → Type 0
AreCountsReturned s l v = (o : ObjectId) → numbers_of l.numbers o ≡ returned_holders (record s { tasks = [] }) (references_of v) o

module _ (m : Module) (s : HolderState) (l : LowState) (x : Datum) where
  -- the run ends with these counts, or a frame waits at a call
  abbrev pub TakesResult : List (Task Frame) → Type 0
  TakesResult [] = (v : Value) → as_value x ≡ Some v → AreCountsReturned s l v
  TakesResult (Runs waiting ∷ rest) = (g : Function) → slice_get m.functions waiting.function.0 ≡ Some g → LowersSo m waiting.function g × WaitsAtCall g waiting
  TakesResult (Drops references ∷ rest) = Unit {0}
  TakesResult (Finishes deinits o ∷ rest) = Unit {0}

abbrev pub AreReturned : Type 0
AreReturned = (m : Module) (bound : ℕ) (s : HolderState) (l : LowState) (x : Datum) (rest : List (Task Frame)) (lrest : List (Task LowFrame))
    (next : HolderNext)
    → AreTotalsFor s l → IsMemoryFor s.memory l.memory → length l.numbers ≡ length s.memory.objects
    → AreTasksFor m rest lrest → Each (HasFullParts m l.memory) lrest
    → any_dead s.memory (references_in x) ≡ false → TakesResult m s l x rest
    → holder.Reaches m (facts_of m) bound s x rest next → IsNoFault next
    → (low_next : LowNext) × ways.Reaches (lowered m) (shapes_of (lowered m)) bound l x lrest low_next × IsNextAlong m l.numbers next low_next
