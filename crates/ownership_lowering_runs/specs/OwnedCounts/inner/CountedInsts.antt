-- Behind an instruction of a typed state of an accepted module, the numbers that the lowered run would keep are the counts of holders.
use Rattle.std.specs.Prelude.{◌≡◌, ℕ, List, ◌∷◌, Some, Ok, slice_get}
use Rattle.sil_ast.specs.declared.function.Function.{Function}
use Rattle.sil_ast.specs.declared.inst.Inst.{Inst}
use Rattle.sil_ast.specs.declared.module.Module.{Module}
use Rattle.sil_cfg.specs.declared.item.Item.TheVariants as item
use Rattle.sil_cfg_items.specs.Items.{item_defined}
use Rattle.sil_cfg_items.specs.Parts.{inst_at}
use Rattle.sil_types_declarations.specs.TypeDefinitions.Declarations.{declarations_of}
use Rattle.holder_model_values.specs.RunValues.Places.{Place}
use Rattle.sil_verifier_runs.specs.sil_verifier_accepted.AcceptedModules.inner.Checked.{IsVerified}
use Rattle.sil_verifier_runs.specs.holder_model.LoweredRun.LowEffects.{stored_behind}
use Rattle.sil_verifier_runs.specs.holder_model.LoweredRun.LowStepParts.{numbers_for}
use Rattle.sil_verifier_runs.specs.holder_model.LoweredRun.Stored.{each_changed, one_more}
use Rattle.sil_verifier_runs.specs.holder_model.Effects as effects
use Rattle.sil_verifier_runs.specs.holder_model.Effects.{Change}
use Rattle.sil_verifier_runs.specs.holder_model.Frames.{Entry, Frame, Operands, results_put}
use Rattle.sil_verifier_runs.specs.holder_model.HolderStates.{HolderState}
use Rattle.sil_verifier_runs.specs.holder_model.ModuleFacts.{facts_of, facts_told}
use Rattle.sil_verifier_runs.specs.holder_model.ModuleShapes.{shapes_in, shapes_of}
use Rattle.sil_verifier_runs.specs.holder_model.Outcomes.{Numbers}
use Rattle.sil_verifier_runs.specs.holder_model.Standing.{stands_at}
use Rattle.sil_verifier_runs.specs.holder_model.States.{Runs, Task}
use Rattle.sil_verifier_runs.specs.holder_model.Steps.{effect_in}
use Rattle.sil_verifier_runs.specs.holder_model_laws.HolderLaws.inner.Steps.Ways.{left_with, moved, operands_in}
use Rattle.sil_verifier_runs.specs.holder_model_laws.StoredCounts.inner.Numbers.{AreCounts}
use Rattle.sil_verifier_runs.specs.sil_verifier_frames.inner.Typed.TypedStates.{IsTypedState}

-- the first frame's next instruction leaves a change
pub record MakesChange (m : Module) (bound : ℕ) (s : HolderState) (rest : List (Task Frame)) (frame : Frame) (f : Function) (i : Inst)
    (ops : Operands) (c : Change)
    (entries : List Entry) : Type 0 where
  pub verified : IsVerified m
  pub typed : IsTypedState m s
  pub at : s.tasks ≡ Runs frame ∷ rest
  pub there : slice_get m.functions frame.function.0 ≡ Some f
  pub here : inst_at f (stands_at f frame.trail) ≡ Some i
  pub taken : operands_in m (facts_of m) bound s frame f (item.Inst (stands_at f frame.trail)) ≡ Ok ops
  pub makes : effect_in m (facts_of m) bound s frame i ops.given ≡ effects.Makes c
  pub put : results_put (facts_told (facts_of m) frame.function) (item_defined f (item.Inst (stands_at f frame.trail))) c.results ops.left ≡ Ok entries

abbrev pub AreInstsCounted : Type 0
AreInstsCounted = (m : Module) (bound : ℕ) (s : HolderState) (rest : List (Task Frame)) (frame : Frame) (f : Function) (i : Inst) (ops : Operands) (c : Change)
    (slots : List Place) (entries : List Entry) (stored : List Numbers) → MakesChange m bound s rest frame f i ops c entries → AreCounts s stored
    → AreCounts (moved m (facts_of m) bound s rest (left_with m (facts_of m) bound frame ops) (item.Inst (stands_at f frame.trail)) c slots entries)
    (numbers_for c.memory (each_changed one_more c.retained
    (stored_behind (declarations_of m) (shapes_of m) (shapes_in (shapes_of m) frame.function) s.memory i ops.given stored)))
