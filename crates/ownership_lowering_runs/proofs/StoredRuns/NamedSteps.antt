-- Instructions that give another name to their operand, retain or release it: none or one step of the lowered run.
use Rattle.std.proofs.Common.{◌≡◌, ℕ, List, [], ◌∷◌, map, refl, sym, ap, ◌∙◌, subst, Bool, true, false, cond, Option, Some, None, Ok}
use Rattle.std.specs.Prelude.{find, slice_get}
use Rattle.std.specs.List.{list_any}
use Rattle.instruction_table.specs.declared.op.Op.TheVariants as op
use Rattle.sil_ast.specs.declared.function.Function.{Function}
use Rattle.sil_ast.specs.declared.inst.Inst.{Inst}
use Rattle.sil_ast.specs.declared.module.Module.{Module}
use Rattle.sil_ast.specs.declared.operands.Operand.{Operand}
use Rattle.sil_ast.specs.declared.place.ObjectId.{ObjectId}
use Rattle.sil_ast.specs.declared.place.PointId.{PointId}
use Rattle.sil_ast.specs.declared.place.ValueId.{ValueId}
use Rattle.sil_cfg.specs.declared.item.Item.TheVariants as item
use Rattle.sil_cfg_items.specs.Parts.{inst_at}
use Rattle.sil_cfg_items.specs.Roles.{taken_by}
use Rattle.sil_types_declarations.specs.TypeDefinitions.Declarations.{Declarations, declarations_of}
use Rattle.sil_types_declarations.specs.TypeDefinitions.Rules.{is_class_type}
use Rattle.holder_model_values.specs.RunValues.Memory.{Memory, is_dead}
use Rattle.holder_model_values.specs.RunValues.Places.{Place}
use Rattle.holder_model_values.specs.RunValues.Shapes.{Shape}
use Rattle.sil_verifier_runs.specs.holder_model.Data.{Datum, references_in}
use Rattle.sil_verifier_runs.specs.holder_model.Effects as effects
use Rattle.sil_verifier_runs.specs.holder_model.Effects.{Change, Makes, effect_of, unchanged}
use Rattle.sil_verifier_runs.specs.holder_model.Frames.{Entry, Frame}
use Rattle.sil_verifier_runs.specs.holder_model.HolderStates.{HolderState}
use Rattle.sil_verifier_runs.specs.holder_model.ModuleShapes.{ModuleShapes, shapes_in, shapes_of}
use Rattle.sil_verifier_runs.specs.holder_model.Outcomes.{Numbers}
use Rattle.sil_verifier_runs.specs.holder_model.Standing.{stands_at}
use Rattle.sil_verifier_runs.specs.holder_model.States.{Goes, Runs, Task}
use Rattle.sil_verifier_runs.specs.holder_model.declared.row_effect.RowEffect.TheVariants as row
use Rattle.sil_verifier_runs.specs.holder_model.LoweredRun.LowEffects as low_effects
use Rattle.sil_verifier_runs.specs.holder_model.LoweredRun.LowEffects.{low_effect, stored_behind, stored_by}
use Rattle.sil_verifier_runs.specs.holder_model.LoweredRun.LowFrames as low_frames
use Rattle.sil_verifier_runs.specs.holder_model.LoweredRun.LowFrames.{LowFrame, put_all, read_all}
use Rattle.sil_verifier_runs.specs.holder_model.LoweredRun.LowStepParts.{LowState, slots_behind, taken_value, values_taken}
use Rattle.sil_verifier_runs.specs.holder_model.LoweredRun.LowSteps as steps
use Rattle.ownership_lowering_laws.specs.ownership_lowering_model.LoweredInsts.{becomes}
use Rattle.ownership_lowering_laws.specs.ownership_lowering_model.LoweredModules.{lowered, lowered_body}
use Rattle.ownership_lowering_laws.specs.ownership_lowering_model.NewInsts.{release, retain}
use Rattle.ownership_lowering_laws.specs.ownership_lowering_model.Numbers.{renumbered_inst}
use Rattle.sil_types.specs.Typing.RowTypes.{passes}
use Rattle.sil_verifier_runs.specs.holder_model_laws.LoweredSteps.inner.LowWays.{Acts, GoesBehind, Performs, StepsBy, effect_in, moved, retained}
use Rattle.sil_verifier_runs.proofs.holder_model_laws.LoweredSteps.LowTaken.{told_taken}
use Rattle.ownership_lowering_runs.specs.StoredRuns.inner.Frames.{AreValuesFor}
use Rattle.ownership_lowering_runs.specs.StoredRuns.inner.Lowering.{LowersSo}
use Rattle.ownership_lowering_runs.specs.StoredRuns.inner.Memories.{IsMemoryFor}
use Rattle.ownership_lowering_runs.specs.StoredRuns.inner.Names.{lowered_number}
use Rattle.ownership_lowering_runs.proofs.StoredRuns.Reading.{defines_there}
use Rattle.ownership_lowering_runs.proofs.StoredRuns.StayingSteps.{LowTop}

-- ---- one instruction of the lowered code

module _ (m : Module) (bound : ℕ) (l : LowState) (low : LowFrame) (others : List (Task LowFrame)) (is_top : l.tasks ≡ Runs low ∷ others) (lf : Function)
    (there : slice_get (lowered m).functions low.function.0 ≡ Some lf) where
  abbrev low_told : ModuleShapes
  low_told = shapes_of (lowered m)

  -- it reads its operands, and makes a change
  pub inst_goes : (j : Inst) (xs : List Datum) (c : Change) (slots : List Place) (values : List (Option Datum)) → inst_at lf low.at ≡ Some j
      → read_all low.values (values_taken lf (item.Inst low.at)) ≡ Ok xs
      → effect_in (lowered m) low_told bound l low j xs ≡ Makes c → slots_behind c.slots low.slots ≡ Ok slots → put_all j.results c.results low.values ≡ Some values
      → find (is_dead l.memory) c.retained ≡ None
      → steps.low_step (lowered m) low_told bound l
      ≡ Goes (moved (lowered m) low_told bound (retained c.retained (steps.with_names (lowered m) low_told bound l low j xs)) others low lf (item.Inst low.at) c slots values)
  inst_goes j xs c slots values here read eff is put alive =
      let next = moved (lowered m) low_told bound (retained c.retained (steps.with_names (lowered m) low_told bound l low j xs)) others low lf (item.Inst low.at) c slots values in
      told_taken (lowered m) low_told bound l (Goes next)
      (StepsBy.runs low others lf (Goes next) is_top there
      (Acts.does j xs (Goes next) here read
      (subst (λ e. Performs (lowered m) low_told bound (steps.with_names (lowered m) low_told bound l low j xs) others low lf (item.Inst low.at) e (Goes next)) (sym eff)
      (Performs.makes c (Goes next) (GoesBehind.goes slots values is (ap (λ rs. put_all rs c.results low.values) (defines_there lf low.at j here) ∙ put) alive)))))

-- ---- retains and releases

module _ (d : Declarations) (o : Operand) where
  retain_op : (b : Bool) → effect_of (cond b op.StrongRetain op.RetainValue) ≡ row.RetainsOperand
  retain_op true = refl
  retain_op false = refl

  release_op : (b : Bool) → effect_of (cond b op.StrongRelease op.ReleaseValue) ≡ row.DropsOperand
  release_op true = refl
  release_op false = refl

  pub retain_takes : map taken_value (taken_by (retain d o)) ≡ o.value ∷ []
  retain_takes = by (passes (is_class_type d) o.ty)
    where
      by : (b : Bool) → map taken_value (taken_by (record (retain d o) { op = cond b op.StrongRetain op.RetainValue })) ≡ o.value ∷ []
      by true = refl
      by false = refl

  pub release_takes : map taken_value (taken_by (release d o)) ≡ o.value ∷ []
  release_takes = by (passes (is_class_type d) o.ty)
    where
      by : (b : Bool) → map taken_value (taken_by (record (release d o) { op = cond b op.StrongRelease op.ReleaseValue })) ≡ o.value ∷ []
      by true = refl
      by false = refl

  module _ (number : ValueId → ValueId) (told : ModuleShapes) (values : List Shape) (memory : Memory) (x : Datum) where
    pub retain_effect : low_effect d told values memory (renumbered_inst number (retain d o)) (x ∷ []) ≡ Makes (record (unchanged memory) { retained = references_in x })
    retain_effect =
        ap (λ r. low_effects.unless_dead d told values memory (renumbered_inst number (retain d o)) (low_effects.operated_on d told values memory (renumbered_inst number (retain d o)) r (x ∷ []))
        (effects.effect_by d told values memory (renumbered_inst number (retain d o)) (low_effects.at_places d told values memory (renumbered_inst number (retain d o))) r (x ∷ [])))
        (retain_op (passes (is_class_type d) o.ty))

    pub release_effect : low_effect d told values memory (renumbered_inst number (release d o)) (x ∷ []) ≡ Makes (record (unchanged memory) { dropped = references_in x })
    release_effect =
        ap (λ r. low_effects.unless_dead d told values memory (renumbered_inst number (release d o)) (low_effects.operated_on d told values memory (renumbered_inst number (release d o)) r (x ∷ []))
        (effects.effect_by d told values memory (renumbered_inst number (release d o)) (low_effects.at_places d told values memory (renumbered_inst number (release d o))) r (x ∷ [])))
        (release_op (passes (is_class_type d) o.ty))

    pub retain_stored : (stored : List Numbers) → stored_behind d told values memory (renumbered_inst number (retain d o)) (x ∷ []) stored ≡ stored
    retain_stored stored = ap (λ r. stored_by d told values memory (renumbered_inst number (retain d o)) r (x ∷ []) stored) (retain_op (passes (is_class_type d) o.ty))

    pub release_stored : (stored : List Numbers) → stored_behind d told values memory (renumbered_inst number (release d o)) (x ∷ []) stored ≡ stored
    release_stored stored = ap (λ r. stored_by d told values memory (renumbered_inst number (release d o)) r (x ∷ []) stored) (release_op (passes (is_class_type d) o.ty))

-- ---- an instruction with one operand

module _ (m : Module) (bound : ℕ) (s : HolderState) (l : LowState) (memory : IsMemoryFor s.memory l.memory) (frame : Frame) (rest : List (Task Frame)) (f : Function)
    (lowers : LowersSo m frame.function f) (there : slice_get m.functions frame.function.0 ≡ Some f) (top : LowTop m frame rest l)
    (i : Inst) (here : inst_at f (stands_at f frame.trail) ≡ Some i) where
  abbrev d : Declarations
  d = declarations_of m

  abbrev p : PointId
  p = stands_at f frame.trail

  abbrev number : ValueId → ValueId
  number v = lowered_number d f v

  abbrev lf : Function
  lf = lowered_body d f

  -- ---- one becomes of it, which counts references

  module _ (w : ValueId) (x : Datum) (j : Inst) (alone : (spare : ValueId) → becomes d spare i ≡ j ∷ []) (takes : map taken_value (taken_by j) ≡ w ∷ []) (none : j.results ≡ [])
      (under : low_frames.value_at top.low.values (number w) ≡ Some x) (dropped made : List ObjectId)
      (eff : effect_in (lowered m) (shapes_of (lowered m)) bound l top.low (renumbered_inst number j) (x ∷ []) ≡ Makes (record (unchanged l.memory) { dropped = dropped; retained = made }))
      (stored : stored_behind d (shapes_of (lowered m)) (shapes_in (shapes_of (lowered m)) top.low.function) l.memory (renumbered_inst number j) (x ∷ []) l.numbers ≡ l.numbers)
      (alive : list_any (is_dead s.memory) made ≡ false)
      (entries : List Entry) (shown : AreValuesFor d f (item.Inst p ∷ frame.trail) entries top.low.values) where
    abbrev c : Change
    c = record (unchanged l.memory) { dropped = dropped; retained = made }

    abbrev named : LowState
    named = steps.with_names (lowered m) (shapes_of (lowered m)) bound l top.low (renumbered_inst number j) (x ∷ [])

    abbrev next : LowState
    next = moved (lowered m) (shapes_of (lowered m)) bound (retained made named) top.others top.low lf (item.Inst top.low.at) c top.low.slots top.low.values
