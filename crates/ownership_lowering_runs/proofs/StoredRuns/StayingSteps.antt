-- The step of an instruction that is lowered to itself.
use Rattle.std.proofs.Common.{◌≡◌, ℕ, suc, ◌+◌, List, [], ◌∷◌, length, arith, refl, ap, ◌∙◌, subst, Bool, true, false, cond, Option, Some, None, Ok, Err}
use Rattle.std.specs.Prelude.{find, slice_get}
use Rattle.std.specs.List.{AllZip, flat_map}
use Rattle.sil_ast.specs.declared.function.Form.TheVariants as form
use Rattle.sil_ast.specs.declared.function.Function.{Function}
use Rattle.sil_ast.specs.declared.inst.Inst.{Inst}
use Rattle.sil_ast.specs.declared.module.Module.{Module}
use Rattle.sil_ast.specs.declared.place.ObjectId.{ObjectId}
use Rattle.sil_ast.specs.declared.place.PointId.{PointId}
use Rattle.sil_ast.specs.declared.place.ValueId.{ValueId}
use Rattle.sil_cfg.specs.Items.{IsItem}
use Rattle.sil_cfg.specs.declared.item.Item.TheVariants as item
use Rattle.sil_cfg_items.specs.Parts.{inst_at}
use Rattle.sil_cfg_items.specs.declared.taken.Taken.{Taken}
use Rattle.ownership_kinds_chains.specs.declared.ownership_chains.facts.Facts.{Facts}
use Rattle.sil_types_declarations.specs.TypeDefinitions.Declarations.{Declarations, declarations_of}
use Rattle.holder_model_values.specs.RunValues.Memory.{Memory, is_dead}
use Rattle.holder_model_values.specs.RunValues.Places.{Place}
use Rattle.holder_model_values.specs.RunValues.Shapes.{Shape}
use Rattle.sil_verifier_runs.specs.holder_model.Data.{Datum, references_in}
use Rattle.sil_verifier_runs.specs.holder_model.Effects.{ClosesSlot, OpensSlot, SameSlots, SlotChange}
use Rattle.sil_verifier_runs.specs.holder_model.Faults.{NotLastSlot}
use Rattle.sil_verifier_runs.specs.holder_model.Frames.{Entry, Frame}
use Rattle.sil_verifier_runs.specs.holder_model.HolderStates.{HolderState}
use Rattle.sil_verifier_runs.specs.holder_model.ModuleFacts.{facts_of, facts_told}
use Rattle.sil_verifier_runs.specs.holder_model.ModuleShapes.{ModuleShapes, shapes_of}
use Rattle.sil_verifier_runs.specs.holder_model.Outcomes.{Numbers}
use Rattle.sil_verifier_runs.specs.holder_model.Standing.{is_slot, stands_at}
use Rattle.sil_verifier_runs.specs.holder_model.StepParts as parts
use Rattle.sil_verifier_runs.specs.holder_model.States.{Goes, Runs, Task, dropping}
use Rattle.sil_verifier_runs.specs.holder_model.declared.row_effect.RowEffect.{RowEffect}
use Rattle.sil_verifier_runs.specs.holder_model.declared.row_effect.RowEffect.TheVariants as row
use Rattle.sil_verifier_runs.specs.holder_model.declared.lowered_run.low_fault.LowFault.TheVariants as fault
use Rattle.sil_verifier_runs.specs.holder_model.LoweredRun.LowEffects as low_effects
use Rattle.sil_verifier_runs.specs.holder_model.LoweredRun.LowFrames.{LowFrame}
use Rattle.sil_verifier_runs.specs.holder_model.LoweredRun.LowStepParts.{LowState, numbers_for, slots_behind}
use Rattle.sil_verifier_runs.specs.holder_model.LoweredRun.LowSteps as steps
use Rattle.sil_verifier_runs.specs.holder_model.LoweredRun.Stored.{changed, each_changed, one_more}
use Rattle.ownership_lowering_laws.specs.ownership_lowering_model.LoweredInsts.{lowering_of}
use Rattle.ownership_lowering_laws.specs.ownership_lowering_model.LoweredModules.{lowered, lowered_body, lowered_by, lowered_function}
use Rattle.ownership_lowering_laws.specs.ownership_lowering_model.declared.lowering.Lowering.TheVariants as lowering
use Rattle.sil_verifier_runs.specs.ownership_kinds_origins.Renamings.{renames}
use Rattle.sil_verifier_runs.specs.sil_verifier_trails.RunTrails.inner.RunTrails.{IsTurnedTrail}
use Rattle.sil_verifier_runs.specs.holder_model_laws.LoweredSteps.inner.LowWays.{retained}
use Rattle.ownership_lowering_runs.specs.StoredRuns.inner.Frames.{AreTasksFor, IsFrameFor, IsTaskFor}
use Rattle.ownership_lowering_runs.specs.StoredRuns.inner.Lowering.{LowersSo}
use Rattle.ownership_lowering_runs.specs.StoredRuns.inner.Memories.{IsMemoryFor}
use Rattle.ownership_lowering_runs.proofs.StoredRuns.Lowered.LoweredCode.{mapped_at}
use Rattle.ownership_lowering_runs.proofs.StoredRuns.SameRows.{none_dead, none_in_both}
use Rattle.ownership_lowering_runs.proofs.StoredRuns.ValuesFor.{IsGivenAlive, err-ok, ok-ok}

-- ---- parts of steps

-- references are made: the numbers and the total of retains are changed, and nothing else
pub retained_so : (os : List ObjectId) (l : LowState) → retained os l ≡ record l { numbers = each_changed one_more os l.numbers; retains = l.retains + length os }
retained_so [] l = ap (λ n. record l { retains = n }) (omega arith)
retained_so (o ∷ os) l =
    retained_so os (record l { numbers = changed one_more l.numbers o; retains = l.retains + 1 })
    ∙ ap (λ n. record l { numbers = each_changed one_more os (changed one_more l.numbers o); retains = n }) (more (length os) l.retains)
  where
    more : (k n : ℕ) → n + 1 + k ≡ n + suc k
    more k n = omega arith

pub slots_for : (c : SlotChange) (slots out : List Place) → parts.slots_behind c slots ≡ Ok out → slots_behind c slots ≡ Ok out
slots_for SameSlots slots out e = ap Ok (ok-ok slots out e)
slots_for (OpensSlot p) slots out e = ap Ok (ok-ok (p ∷ slots) out e)
slots_for (ClosesSlot p) [] out e = absurd (err-ok NotLastSlot out e)
slots_for (ClosesSlot p) (slot ∷ slots) out e = at (is_slot p slot) e
  where
    at : (b : Bool) → cond b (Ok slots) (Err NotLastSlot) ≡ Ok out → cond b (Ok slots) (Err fault.Slot) ≡ Ok out
    at true e = ap Ok (ok-ok slots out e)
    at false e = absurd (err-ok NotLastSlot out e)

-- of what a row operates on, nothing is dead
pub operated_alive : (m low : Memory) → IsMemoryFor m low → (facts : ValueId → Option Facts) (entries : List Entry) (ts : List Taken) (xs : List Datum) → AllZip (IsGivenAlive facts m entries) ts xs
    → find (is_dead low) (flat_map references_in xs) ≡ None
operated_alive m low h facts entries [] [] given = refl
operated_alive m low h facts entries [] (x ∷ xs) given = absurd given
operated_alive m low h facts entries (t ∷ ts) [] given = absurd given
operated_alive m low h facts entries (t ∷ ts) (x ∷ xs) given =
    none_in_both low (references_in x) (flat_map references_in xs) (none_dead m low h (references_in x) given.0.1) (operated_alive m low h facts entries ts xs given.1)

-- the frame on top of both
pub record LowTop (m : Module) (frame : Frame) (rest : List (Task Frame)) (l : LowState) : Type 0 where
  pub low : LowFrame
  pub others : List (Task LowFrame)
  pub is_top : l.tasks ≡ Runs low ∷ others
  pub of : IsFrameFor m frame low
  pub rest_for : AreTasksFor m rest others

pub low_frame : (m : Module) (frame : Frame) (x : Task LowFrame) → IsTaskFor m (Runs frame) x → (low : LowFrame) × (x ≡ Runs low) × IsFrameFor m frame low
low_frame m _ _ (IsTaskFor.runs frame low h) = (low, refl, h)

pub low_top : (m : Module) (frame : Frame) (rest : List (Task Frame)) (tasks : List (Task Frame)) (l : LowState) → AreTasksFor m tasks l.tasks → tasks ≡ Runs frame ∷ rest
    → LowTop m frame rest l
low_top m frame rest tasks l h is = at l.tasks refl (subst (λ ts. AreTasksFor m ts l.tasks) is h)
  where
    at : (ts : List (Task LowFrame)) → l.tasks ≡ ts → AreTasksFor m (Runs frame ∷ rest) ts → LowTop m frame rest l
    at [] e k = absurd k
    at (x ∷ ts) e k =
        let top = low_frame m frame x k.0 in
        record { low = top.0; others = ts; is_top = e ∙ ap (λ y. y ∷ ts) top.1; of = top.2; rest_for = k.1 }

module _ (d : Declarations) (told : ModuleShapes) (values : List Shape) (low : Memory) (i : Inst) (xs : List Datum) where
  pub operated_none : (r : RowEffect) → find (is_dead low) (flat_map references_in xs) ≡ None → find (is_dead low) (low_effects.operated_on d told values low i r xs) ≡ None
  operated_none row.NoEffect e = refl
  operated_none row.GivesLiteral e = refl
  operated_none row.GivesFunction e = refl
  operated_none row.Computes e = refl
  operated_none row.TrapsWhereSet e = refl
  operated_none row.MakesObject e = refl
  operated_none row.MakesSlot e = refl
  operated_none row.RemovesSlot e = refl
  operated_none row.GivesOperand e = refl
  operated_none row.CopiesOperand e = refl
  operated_none row.RetainsOperand e = refl
  operated_none row.DropsOperand e = refl
  operated_none row.LoadsValue e = refl
  operated_none row.StoresValue e = refl
  operated_none row.DestroysPlace e = refl
  operated_none row.LoadsName e = refl
  operated_none row.Groups e = refl
  operated_none row.ChoosesCase e = refl
  operated_none row.GivesMember e = refl
  operated_none row.GivesMembers e = refl
  operated_none row.AddressesMember e = refl
  operated_none row.AddressesField e = e
  operated_none row.CallsFunction e = refl

pub dropping_for : (m : Module) (os : List ObjectId) (ts : List (Task Frame)) (us : List (Task LowFrame)) → AreTasksFor m ts us → AreTasksFor m (dropping os ts) (dropping os us)
dropping_for m [] ts us h = h
dropping_for m (o ∷ os) ts us h = (IsTaskFor.drops (o ∷ os), h)

-- what the lowered step leads to, but for its numbers: those are told
pub record GoesSo (m : Module) (bound : ℕ) (l : LowState) (tasks : List (Task Frame)) (memory : Memory) (retained : List ObjectId) (stored : List Numbers) : Type 0 where
  pub l' : LowState
  pub step : steps.low_step (lowered m) (shapes_of (lowered m)) bound l ≡ Goes l'
  pub tasks_for : AreTasksFor m tasks l'.tasks
  pub memory_for : IsMemoryFor memory l'.memory
  pub numbers : l'.numbers ≡ numbers_for l'.memory (each_changed one_more retained stored)
  pub events : l'.events ≡ l.events
  pub turns : l'.turns ≡ l.turns
  pub retains : l'.retains ≡ l.retains + length retained
  pub releases : l'.releases ≡ l.releases

-- ---- the step

module _ (m : Module) (bound : ℕ) where
  abbrev d : Declarations
  d = declarations_of m

  -- a function of the lowered module
  pub function_there : (g : ℕ) (f : Function) → slice_get m.functions g ≡ Some f → f.form ≡ form.Ossa → slice_get (lowered m).functions g ≡ Some (lowered_body d f)
  function_there g f e is = mapped_at (lowered_function d) m.functions g f e ∙ ap (λ x. Some (lowered_by x d f)) is

  module _ (s : HolderState) (l : LowState) (memory : IsMemoryFor s.memory l.memory) (frame : Frame) (rest : List (Task Frame)) (f : Function)
      (lowers : LowersSo m frame.function f) (there : slice_get m.functions frame.function.0 ≡ Some f) (top : LowTop m frame rest l)
      (i : Inst) (here : inst_at f (stands_at f frame.trail) ≡ Some i) (stays : lowering_of i.op ≡ lowering.Stays) (keeps : renames i.op ≡ false)
      (is_item : IsItem f (item.Inst (stands_at f frame.trail))) (turned : IsTurnedTrail f (item.Inst (stands_at f frame.trail) ∷ frame.trail)) where
    abbrev p : PointId
    p = stands_at f frame.trail

    abbrev facts : ValueId → Option Facts
    facts v = facts_told (facts_of m) frame.function v
