-- The instructions that stand in the place of one: the frame goes from point to point, and in the end stands behind it.
use Rattle.std.proofs.Common.{◌≡◌, ℕ, suc, ◌+◌, List, [], ◌∷◌, map, length, refl, sym, ap, ◌∙◌, subst, true, cond, Option, Some, None, Ok, eq-eqb}
use Rattle.std.specs.Prelude.{◌==◌, ◌++◌, find, is_some, slice_get}
use Rattle.std.proofs.lemmas.Option.{same_Some}
use Rattle.std.proofs.lemmas.Slice.Zip.{AllZip-long}
use Rattle.numbered_form.specs.Lists.{Each}
use Rattle.sil_ast.specs.declared.function.Function.{Function}
use Rattle.sil_ast.specs.declared.inst.Inst.{Inst}
use Rattle.sil_ast.specs.declared.module.Module.{Module}
use Rattle.sil_ast.specs.declared.place.FuncId.{FuncId}
use Rattle.sil_ast.specs.declared.place.ObjectId.{ObjectId}
use Rattle.sil_ast.specs.declared.place.PointId.{PointId}
use Rattle.sil_cfg.specs.declared.item.Item.TheVariants as item
use Rattle.sil_cfg_items.specs.Parts.{inst_at}
use Rattle.sil_cfg_items.specs.Roles.{taken_by}
use Rattle.sil_types_declarations.specs.TypeDefinitions.Declarations.{Declarations, declarations_of}
use Rattle.holder_model_values.specs.RunValues.Memory.{Memory, is_dead}
use Rattle.holder_model_values.specs.RunValues.Places.{Place, value_at}
use Rattle.holder_model_values.specs.RunValues.Shapes.{Shape}
use Rattle.sil_verifier_runs.specs.holder_model.Data.{Datum}
use Rattle.sil_verifier_runs.specs.holder_model.Effects.{Change, Makes}
use Rattle.sil_verifier_runs.specs.holder_model.Frames.{Entry, Frame}
use Rattle.sil_verifier_runs.specs.holder_model.HolderStates.{HolderState}
use Rattle.sil_verifier_runs.specs.holder_model.ModuleFacts.{facts_of}
use Rattle.sil_verifier_runs.specs.holder_model.ModuleShapes.{ModuleShapes, shapes_in, shapes_of}
use Rattle.sil_verifier_runs.specs.holder_model.Outcomes.{Numbers}
use Rattle.sil_verifier_runs.specs.holder_model.Standing.{point_behind, stands_at}
use Rattle.sil_verifier_runs.specs.holder_model.States.{Drops, Goes, Runs, Task, dropping}
use Rattle.sil_verifier_runs.specs.holder_model.LoweredRun.LowEffects.{low_effect, stored_behind}
use Rattle.sil_verifier_runs.specs.holder_model.LoweredRun.LowFrames.{LowFrame, put_all, read_all}
use Rattle.sil_verifier_runs.specs.holder_model.LoweredRun.LowStepParts.{LowState, numbers_for, slots_behind, taken_value}
use Rattle.sil_verifier_runs.specs.holder_model.LoweredRun.LowSteps as steps
use Rattle.sil_verifier_runs.specs.holder_model.LoweredRun.Stored.{each_changed, new_numbers, one_more}
use Rattle.ownership_lowering_laws.specs.ownership_lowering_model.LoweredModules.{lowered, lowered_body}
use Rattle.sil_verifier_runs.specs.holder_model_laws.HolderLaws.inner.Steps.Ways as holder
use Rattle.sil_verifier_runs.specs.holder_model_laws.LoweredSteps.inner.LowWays.{moved}
use Rattle.ownership_lowering_runs.specs.StoredRuns.inner.Along.{AreTotalsFor, IsAlong}
use Rattle.ownership_lowering_runs.specs.StoredRuns.inner.Frames.{AreGivenPartsFull, AreTasksFor, AreValuesFor, HasFullParts, IsFrameAt, IsFrameFor, IsTaskFor}
use Rattle.ownership_lowering_runs.specs.StoredRuns.inner.Lowering.{LowersSo}
use Rattle.ownership_lowering_runs.specs.StoredRuns.inner.Memories.{IsMemoryFor, IsObjectFor}
use Rattle.ownership_lowering_runs.specs.StoredRuns.inner.Points.{lowered_point}
use Rattle.ownership_lowering_runs.proofs.StoredRuns.Reading.{takes_there}
use Rattle.ownership_lowering_runs.proofs.StoredRuns.NamedSteps.{inst_goes}
use Rattle.ownership_lowering_runs.proofs.StoredRuns.StayingSteps.{dropping_for, function_there, retained_so}

-- ---- stored numbers

-- where no object is new the stored numbers stay
pub numbers_stay : (memory : Memory) (stored : List Numbers) → length stored ≡ length memory.objects → numbers_for memory stored ≡ stored
numbers_stay memory stored e = ap (λ b. cond b stored (stored ++ new_numbers ∷ [])) (eq-eqb (length stored) (length memory.objects) e)

-- both memories have as many objects
pub as_many_objects : (memory low : Memory) → IsMemoryFor memory low → length low.objects ≡ length memory.objects
as_many_objects memory low h = AllZip-long IsObjectFor memory.objects low.objects h.objects

pub numbers_in_both : (memory low : Memory) → IsMemoryFor memory low → (stored : List Numbers) → numbers_for low stored ≡ numbers_for memory stored
numbers_in_both memory low h stored = ap (λ n. cond (length stored == n) stored (stored ++ new_numbers ∷ [])) (as_many_objects memory low h)

-- ---- the parts of frames below

full_dropping : (m : Module) (low : Memory) (os : List ObjectId) (tasks : List (Task LowFrame)) → Each (HasFullParts m low) tasks → Each (HasFullParts m low) (dropping os tasks)
full_dropping m low [] tasks h = h
full_dropping m low (o ∷ os) tasks h = (tt, h)

-- a memory where full places stay full
abbrev pub KeepsFull : Memory → Memory → Type 0
KeepsFull low low' = (p : Place) → is_some (value_at low p) ≡ true → is_some (value_at low' p) ≡ true

pub parts_kept : (m : Module) (low low' : Memory) → KeepsFull low low' → (tasks : List (Task LowFrame)) → Each (HasFullParts m low) tasks → Each (HasFullParts m low') tasks
parts_kept m low low' keeps [] h = tt
parts_kept m low low' keeps (Runs frame ∷ tasks) h = ((λ f there v p given at part. keeps p (h.0 f there v p given at part)), parts_kept m low low' keeps tasks h.1)
parts_kept m low low' keeps (Drops os ∷ tasks) h = (tt, parts_kept m low low' keeps tasks h.1)
parts_kept m low low' keeps (_ ∷ tasks) h = (h.0, parts_kept m low low' keeps tasks h.1)

-- ---- from point to point

module _ (m : Module) (bound : ℕ) (l : LowState) (frame : Frame) (f : Function) (low : LowFrame) (lrest : List (Task LowFrame))
    (there : slice_get m.functions frame.function.0 ≡ Some f) (lowers : LowersSo m frame.function f) (frames : IsFrameAt (declarations_of m) f frame low) where
  abbrev pub d : Declarations
  d = declarations_of m

  abbrev pub low_told : ModuleShapes
  low_told = shapes_of (lowered m)

  abbrev pub low_shapes : List Shape
  low_shapes = shapes_in low_told low.function

  abbrev pub lf : Function
  lf = lowered_body d f

  abbrev pub p : PointId
  p = stands_at f frame.trail

  -- the lowered frame at the instruction with this number of the block, with these values and slots
  abbrev pub low_at : ℕ → List (Option Datum) → List Place → LowFrame
  low_at n values slots = record low { at = record p { index = n }; values = values; slots = slots }

  -- the lowered state there, when these references wait to be released
  abbrev pub waits : List ObjectId → ℕ → List (Option Datum) → List Place → Memory → List Numbers → ℕ → LowState
  waits dropped n values slots memory numbers retains =
      record l { tasks = dropping dropped (Runs (low_at n values slots) ∷ lrest); memory = memory; numbers = numbers; retains = retains }

  abbrev pub mid : ℕ → List (Option Datum) → List Place → Memory → List Numbers → ℕ → LowState
  mid n values slots memory numbers retains = waits [] n values slots memory numbers retains

  -- where it begins
  pub starts : l.tasks ≡ Runs low ∷ lrest → l ≡ mid (lowered_point d f p).index low.values low.slots l.memory l.numbers l.retains
  starts is_top = ap (λ (ts : List (Task LowFrame)). record l { tasks = ts }) (is_top ∙ ap (λ (q : PointId). Runs (record low { at = q }) ∷ lrest) frames.at)

  -- one instruction makes a change
  module _ (n : ℕ) (values : List (Option Datum)) (slots : List Place) (memory : Memory) (numbers : List Numbers) (retains : ℕ) where
    pub mid_step : (j : Inst) (xs : List Datum) (c : Change) (slots' : List Place) (values' : List (Option Datum)) → inst_at lf (record p { index = n }) ≡ Some j
        → read_all values (map taken_value (taken_by j)) ≡ Ok xs → low_effect d low_told low_shapes memory j xs ≡ Makes c → slots_behind c.slots slots ≡ Ok slots'
        → put_all j.results c.results values ≡ Some values' → find (is_dead memory) c.retained ≡ None
        → steps.low_step (lowered m) low_told bound (mid n values slots memory numbers retains)
        ≡ Goes (waits c.dropped (suc n) values' slots' c.memory
        (numbers_for c.memory (each_changed one_more c.retained (stored_behind d low_told low_shapes memory j xs numbers))) (retains + length c.retained))
    mid_step j xs c slots' values' here read eff slots_are put alive =
        let now : LowState = mid n values slots memory numbers retains in
        let at : LowFrame = low_at n values slots in
        inst_goes m bound now at lrest refl lf
        (ap (λ g. slice_get (lowered m).functions g.0) frames.function ∙ function_there m bound frame.function.0 f there lowers.form)
        j xs c slots' values' here (ap (read_all values) (takes_there lf (record p { index = n }) j here) ∙ read) eff slots_are put alive
        ∙ ap (λ (x : LowState). Goes (moved (lowered m) low_told bound x lrest at lf (item.Inst (record p { index = n })) c slots' values'))
        (retained_so c.retained (steps.with_names (lowered m) low_told bound now at j xs))

  -- ---- behind the instruction

  module _ (s : HolderState) (rest : List (Task Frame)) (totals : AreTotalsFor s l) (rest_for : AreTasksFor m rest lrest) where
    abbrev after : List Place → List Entry → Frame
    after slots entries = record frame { trail = item.Inst p ∷ frame.trail; entries = entries; slots = slots; lent = [] }

    abbrev low_after : List Place → List (Option Datum) → LowFrame
    low_after slots values = low_at (lowered_point d f (point_behind p)).index values slots

    frame_for : (slots : List Place) (entries : List Entry) (values : List (Option Datum)) → length values ≡ length low.values
        → AreValuesFor d f (item.Inst p ∷ frame.trail) entries values → IsFrameFor m (after slots entries) (low_after slots values)
    frame_for slots entries values size shown = record {
      f = f;
      there = there;
      frames = record { function = frames.function; at = refl; slots = refl; size = size ∙ frames.size; values = shown };
    }

    full_for : (slots : List Place) (values : List (Option Datum)) (memory : Memory) → AreGivenPartsFull d f values memory
        → HasFullParts m memory (Runs (low_after slots values))
    full_for slots values memory parts g is =
        let one : f ≡ g = same_Some f g (sym (ap (λ (h : FuncId). slice_get m.functions h.0) frames.function ∙ there) ∙ is) in
        subst (λ h. AreGivenPartsFull d h values memory) one parts

    pub behind_it : (c : Change) (slots : List Place) (entries : List Entry) (values : List (Option Datum)) (memory : Memory) (numbers : List Numbers)
        → length values ≡ length low.values → AreValuesFor d f (item.Inst p ∷ frame.trail) entries values → IsMemoryFor c.memory memory
        → AreGivenPartsFull d f values memory → Each (HasFullParts m memory) lrest
        → IsAlong m (holder.moved m (facts_of m) bound s rest frame (item.Inst p) c slots entries)
        (waits c.dropped (lowered_point d f (point_behind p)).index values slots memory numbers (l.retains + length c.retained))
    behind_it c slots entries values memory numbers size shown for parts below = record {
      tasks = dropping_for m c.dropped (Runs (after slots entries) ∷ rest) (Runs (low_after slots values) ∷ lrest)
          (IsTaskFor.runs (after slots entries) (low_after slots values) (frame_for slots entries values size shown), rest_for);
      memory = for;
      parts = full_dropping m memory c.dropped (Runs (low_after slots values) ∷ lrest) (full_for slots values memory parts, below);
      totals = record { events = totals.events; turns = totals.turns; retains = ap (λ n. n + length c.retained) totals.retains; releases = totals.releases };
    }
