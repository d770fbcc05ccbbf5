-- Rows at places in both runs: one step of the run by holders, and as many steps of the lowered run as it has instructions for the row.
use Rattle.std.specs.Prelude.{◌≡◌, ℕ, List, ◌∷◌, Some, Ok, length, map, slice_get}
use Rattle.numbered_form.specs.Lists.{Each}
use Rattle.sil_ast.specs.declared.function.Function.{Function}
use Rattle.sil_ast.specs.declared.inst.Inst.{Inst}
use Rattle.sil_ast.specs.declared.module.Module.{Module}
use Rattle.sil_ast.specs.declared.operands.Operand.{Operand}
use Rattle.sil_ast.specs.declared.place.ValueId.{ValueId}
use Rattle.sil_cfg.specs.Items.{IsItem}
use Rattle.sil_cfg.specs.declared.item.Item.TheVariants as item
use Rattle.sil_cfg_items.specs.Items.{item_taken}
use Rattle.sil_cfg_items.specs.Parts.{inst_at}
use Rattle.sil_types_declarations.specs.TypeDefinitions.Declarations.{declarations_of}
use Rattle.sil_verifier_runs.specs.sil_verifier_trails.RunTrails.inner.RunTrails.{IsTurnedTrail}
use Rattle.sil_verifier_runs.specs.holder_model.Data.{Datum}
use Rattle.sil_verifier_runs.specs.holder_model.Effects.{Change}
use Rattle.sil_verifier_runs.specs.holder_model.Frames.{Frame, Operands, operands_of}
use Rattle.sil_verifier_runs.specs.holder_model.HolderStates.{HolderState}
use Rattle.sil_verifier_runs.specs.holder_model.ModuleFacts.{facts_of, facts_told}
use Rattle.sil_verifier_runs.specs.holder_model.ModuleShapes.{shapes_in, shapes_of}
use Rattle.sil_verifier_runs.specs.holder_model.Outcomes.{Numbers}
use Rattle.sil_verifier_runs.specs.holder_model.Standing.{stands_at}
use Rattle.sil_verifier_runs.specs.holder_model.States.{Goes, Runs, Task}
use Rattle.sil_verifier_runs.specs.holder_model.LoweredRun.LowEffects.{stored_behind}
use Rattle.sil_verifier_runs.specs.holder_model.LoweredRun.LowFrames.{LowFrame}
use Rattle.sil_verifier_runs.specs.holder_model.LoweredRun.LowStepParts.{LowState, numbers_for, values_taken}
use Rattle.sil_verifier_runs.specs.holder_model.LoweredRun.LowSteps as steps
use Rattle.sil_verifier_runs.specs.holder_model.LoweredRun.Stored.{each_changed, one_more}
use Rattle.ownership_lowering_laws.specs.ownership_lowering_model.LoweredModules.{lowered}
use Rattle.ownership_lowering_runs.specs.StoredRuns.inner.Along.{AreTotalsFor, IsAlong}
use Rattle.ownership_lowering_runs.specs.StoredRuns.inner.Frames.{AreTasksFor, HasFullParts, IsFrameAt}
use Rattle.ownership_lowering_runs.specs.StoredRuns.inner.Lowering.{LowersSo}
use Rattle.ownership_lowering_runs.specs.StoredRuns.inner.Memories.{IsMemoryFor}

-- the lowered run goes on from one state to another, in none or more steps
pub data LowGoes (m : Module) (bound : ℕ) (last : LowState) : LowState → Type 0 where
  there : LowGoes m bound last last
  more : (l next : LowState) → steps.low_step (lowered m) (shapes_of (lowered m)) bound l ≡ Goes next → LowGoes m bound last next → LowGoes m bound last l

-- it goes on to a state that goes along with this one, with these stored numbers
pub record GoesAlong (m : Module) (bound : ℕ) (l : LowState) (next : HolderState) (stored : List Numbers) : Type 0 where
  pub low_next : LowState
  pub steps : LowGoes m bound low_next l
  pub along : IsAlong m next low_next
  pub numbers : low_next.numbers ≡ stored

abbrev pub operand_value : Operand → ValueId
operand_value o = o.value

-- both runs stand at the instruction, and have its operands
pub record StandsAt (m : Module) (s : HolderState) (l : LowState) (frame : Frame) (rest : List (Task Frame)) (f : Function) (i : Inst)
    (ops : Operands) : Type 0 where
  pub totals : AreTotalsFor s l
  pub memory : IsMemoryFor s.memory l.memory
  pub size : length l.numbers ≡ length s.memory.objects
  pub there : slice_get m.functions frame.function.0 ≡ Some f
  pub lowers : LowersSo m frame.function f
  pub low : LowFrame
  pub lrest : List (Task LowFrame)
  pub is_top : l.tasks ≡ Runs low ∷ lrest
  pub frames : IsFrameAt (declarations_of m) f frame low
  pub rest_for : AreTasksFor m rest lrest
  pub full : Each (HasFullParts m l.memory) (Runs low ∷ lrest)
  pub here : inst_at f (stands_at f frame.trail) ≡ Some i
  pub is_item : IsItem f (item.Inst (stands_at f frame.trail))
  pub turned : IsTurnedTrail f (item.Inst (stands_at f frame.trail) ∷ frame.trail)
  pub found : operands_of (facts_told (facts_of m) frame.function) s.memory frame.entries (item_taken f (item.Inst (stands_at f frame.trail))) ≡ Ok ops
  pub takes : values_taken f (item.Inst (stands_at f frame.trail)) ≡ map operand_value i.operands

-- what becomes of stored numbers behind an instruction, in the words of the run by holders: where references are made, and where storage begins or
-- ceases to name an object
abbrev pub stored_for : Module → HolderState → Frame → Inst → List Datum → Change → List Numbers → List Numbers
stored_for m s frame i xs c stored =
    numbers_for c.memory (each_changed one_more c.retained
    (stored_behind (declarations_of m) (shapes_of m) (shapes_in (shapes_of m) frame.function) s.memory i xs stored))
