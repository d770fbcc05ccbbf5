-- Steps of a state's first frame at terminators and calls, in both runs: states go along but for counts.
use Rattle.std.specs.Prelude.{◌≡◌, ℕ, List, ◌∷◌, Some, None, Ok, slice_get}
use Rattle.instruction_table.specs.declared.op.Op.TheVariants as op
use Rattle.sil_ast.specs.declared.function.Function.{Function}
use Rattle.sil_ast.specs.declared.inst.Inst.{Inst}
use Rattle.sil_ast.specs.declared.module.Module.{Module}
use Rattle.sil_cfg.specs.Items.{IsItem}
use Rattle.sil_cfg.specs.declared.item.Item.{Item}
use Rattle.sil_cfg.specs.declared.item.Item.TheVariants as item
use Rattle.sil_cfg_items.specs.Items.{item_taken}
use Rattle.sil_cfg_items.specs.Parts.{inst_at}
use Rattle.sil_verifier_runs.specs.sil_verifier_trails.RunTrails.inner.RunTrails.{ComesAt, IsTurnedTrail}
use Rattle.sil_verifier_runs.specs.holder_model.Frames.{Frame, Operands, operands_of}
use Rattle.sil_verifier_runs.specs.holder_model.HolderStates.{HolderNext, HolderState}
use Rattle.sil_verifier_runs.specs.holder_model.ModuleFacts.{facts_of, facts_told}
use Rattle.sil_verifier_runs.specs.holder_model.ModuleShapes.{shapes_of}
use Rattle.sil_verifier_runs.specs.holder_model.Standing.{stands_at}
use Rattle.sil_verifier_runs.specs.holder_model.States.{Runs, Task}
use Rattle.sil_verifier_runs.specs.holder_model.Steps as holder_run
use Rattle.sil_verifier_runs.specs.holder_model.LoweredRun.LowStepParts.{LowNext, LowState}
use Rattle.sil_verifier_runs.specs.holder_model.LoweredRun.LowSteps as steps
use Rattle.ownership_lowering_laws.specs.ownership_lowering_model.LoweredModules.{lowered}
use Rattle.sil_verifier_runs.specs.holder_model_laws.HolderLaws.inner.Steps.Ways as holder
use Rattle.ownership_lowering_runs.specs.StoredRuns.inner.Along.{IsNextAlong, IsNoFault}
use Rattle.ownership_lowering_runs.specs.StoredRuns.inner.CallsAlong.{CallsRight}
use Rattle.ownership_lowering_runs.specs.StoredRuns.inner.EndsAlong.{ComesPlain, MayReturnTo}
use Rattle.ownership_lowering_runs.specs.StoredRuns.inner.Lowering.{LowersSo}
use Rattle.ownership_lowering_runs.specs.StoredRuns.inner.States.{IsStateFor}

-- one step of the lowered run goes along, and its stored numbers stay
pub record StepsAlong (m : Module) (bound : ℕ) (l : LowState) (next : HolderNext) : Type 0 where
  pub low_next : LowNext
  pub step : steps.low_step (lowered m) (shapes_of (lowered m)) bound l ≡ low_next
  pub for : IsNextAlong m l.numbers next low_next

-- edges, returns and ends of a frame
abbrev pub EndsStep : Type 0
EndsStep = (m : Module) (bound : ℕ) (s : HolderState) (l : LowState) (frame : Frame) (rest : List (Task Frame)) (f : Function) (next : HolderNext)
    → IsStateFor m s l → s.tasks ≡ Runs frame ∷ rest → slice_get m.functions frame.function.0 ≡ Some f → LowersSo m frame.function f
    → inst_at f (stands_at f frame.trail) ≡ None
    → ((i : Item) → ComesAt f (stands_at f frame.trail) i → ComesPlain m s frame f i)
    → MayReturnTo m s l frame f rest
    → holder.Acts m (facts_of m) bound s rest frame f next → IsNoFault next → StepsAlong m bound l next

-- calls
abbrev pub CallsStep : Type 0
CallsStep = (m : Module) (bound : ℕ) (s : HolderState) (l : LowState) (frame : Frame) (rest : List (Task Frame)) (f : Function) (i : Inst)
    (ops : Operands) (next : HolderNext)
    → IsStateFor m s l → s.tasks ≡ Runs frame ∷ rest → slice_get m.functions frame.function.0 ≡ Some f → LowersSo m frame.function f
    → inst_at f (stands_at f frame.trail) ≡ Some i → i.op ≡ op.Apply
    → IsItem f (item.Inst (stands_at f frame.trail)) → IsTurnedTrail f (item.Inst (stands_at f frame.trail) ∷ frame.trail)
    → operands_of (facts_told (facts_of m) frame.function) s.memory frame.entries (item_taken f (item.Inst (stands_at f frame.trail))) ≡ Ok ops
    → CallsRight m bound s frame f i ops
    → holder.Performs m (facts_of m) bound s rest (holder.left_with m (facts_of m) bound frame ops) f (item.Inst (stands_at f frame.trail))
    (holder_run.effect_in m (facts_of m) bound s frame i ops.given) next
    → IsNoFault next → StepsAlong m bound l next
