-- An edge is taken in both runs.
use Rattle.std.specs.Prelude.{◌≡◌, ℕ, List, ◌∷◌, Some, length, slice_get}
use Rattle.numbered_form.specs.Lists.{Each}
use Rattle.sil_ast.specs.declared.function.Function.{Function}
use Rattle.sil_ast.specs.declared.module.Module.{Module}
use Rattle.sil_ast.specs.declared.place.EdgeId.{EdgeId}
use Rattle.sil_cfg.specs.Items.{IsItem}
use Rattle.sil_cfg.specs.declared.item.Item.TheVariants as item
use Rattle.sil_types_declarations.specs.TypeDefinitions.Declarations.{declarations_of}
use Rattle.sil_verifier_runs.specs.sil_verifier_trails.RunTrails.inner.RunTrails.{IsTurnedTrail}
use Rattle.sil_verifier_runs.specs.holder_model.Frames.{Frame}
use Rattle.sil_verifier_runs.specs.holder_model.HolderStates.{HolderNext, HolderState}
use Rattle.sil_verifier_runs.specs.holder_model.ModuleFacts.{facts_of}
use Rattle.sil_verifier_runs.specs.holder_model.ModuleShapes.{shapes_of}
use Rattle.sil_verifier_runs.specs.holder_model.States.{Runs, Task}
use Rattle.sil_verifier_runs.specs.holder_model.LoweredRun.LowFrames.{LowFrame}
use Rattle.sil_verifier_runs.specs.holder_model.LoweredRun.LowStepParts.{LowNext, LowState}
use Rattle.ownership_lowering_laws.specs.ownership_lowering_model.LoweredModules.{lowered, lowered_body}
use Rattle.sil_verifier_runs.specs.holder_model_laws.HolderLaws.inner.Steps.Ways as holder
use Rattle.sil_verifier_runs.specs.holder_model_laws.LoweredSteps.inner.LowWays as ways
use Rattle.ownership_lowering_runs.specs.StoredRuns.inner.Along.{AreTotalsFor, IsNextAlong, IsNoFault, TakesNoAddress}
use Rattle.ownership_lowering_runs.specs.StoredRuns.inner.Frames.{AreTasksFor, HasFullParts, IsFrameAt}
use Rattle.ownership_lowering_runs.specs.StoredRuns.inner.Lowering.{LowersSo}
use Rattle.ownership_lowering_runs.specs.StoredRuns.inner.Memories.{IsMemoryFor}

abbrev pub AreEdgesTaken : Type 0
AreEdgesTaken = (m : Module) (bound : ℕ) (s : HolderState) (l : LowState) (frame : Frame) (rest : List (Task Frame)) (f : Function)
    (low : LowFrame) (lrest : List (Task LowFrame)) (e : EdgeId) (next : HolderNext)
    → AreTotalsFor s l → IsMemoryFor s.memory l.memory → length l.numbers ≡ length s.memory.objects
    → slice_get m.functions frame.function.0 ≡ Some f → LowersSo m frame.function f → IsFrameAt (declarations_of m) f frame low
    → AreTasksFor m rest lrest → Each (HasFullParts m l.memory) (Runs low ∷ lrest)
    → IsItem f (item.Edge e) → IsTurnedTrail f (item.Edge e ∷ frame.trail) → TakesNoAddress m s frame f (item.Edge e)
    → holder.TakesEdge m (facts_of m) bound s rest frame f e next → IsNoFault next
    → (low_next : LowNext) × ways.TakesEdge (lowered m) (shapes_of (lowered m)) bound l lrest low (lowered_body (declarations_of m) f) e low_next
    × IsNextAlong m l.numbers next low_next
