-- What holds in each right state of a run of an accepted module, so that the lowered run follows it: what rows find, and that calls are counted.
use Rattle.std.specs.Prelude.{◌≡◌, ℕ, List, [], ◌∷◌, true, false, Some, Ok, slice_get}
use Rattle.std.specs.List.{list_any}
use Rattle.numbered_form.specs.Lists.{Each}
use Rattle.sil_ast.specs.declared.function.Function.{Function}
use Rattle.sil_ast.specs.declared.inst.Inst.{Inst}
use Rattle.sil_ast.specs.declared.module.Module.{Module}
use Rattle.sil_ast.specs.declared.place.FuncId.{FuncId}
use Rattle.sil_ast.specs.declared.place.ObjectId.{ObjectId}
use Rattle.sil_cfg.specs.declared.item.Item.TheVariants as item
use Rattle.sil_cfg_items.specs.Items.{item_defined, item_taken}
use Rattle.sil_cfg_items.specs.Parts.{inst_at}
use Rattle.holder_model_values.specs.RunValues.Memory.{is_dead, object_at, with_object}
use Rattle.holder_model_values.specs.RunValues.Places.{Place}
use Rattle.sil_verifier_runs.specs.sil_verifier_accepted.AcceptedModules.inner.Checked.{IsVerified}
use Rattle.sil_verifier_runs.specs.inner.RightStates.{IsRightState}
use Rattle.sil_verifier_runs.specs.holder_model.Dropping.{ended}
use Rattle.sil_verifier_runs.specs.holder_model.Effects as effects
use Rattle.sil_verifier_runs.specs.holder_model.Effects.{Change, effect_of}
use Rattle.sil_verifier_runs.specs.holder_model.Faults.{HolderFault}
use Rattle.sil_verifier_runs.specs.holder_model.Frames.{Entry, Frame, Operands, operands_of, results_put}
use Rattle.sil_verifier_runs.specs.holder_model.HolderStates.{HolderState, strong_holders}
use Rattle.sil_verifier_runs.specs.holder_model.ModuleFacts.{facts_of, facts_told}
use Rattle.sil_verifier_runs.specs.holder_model.Outcomes.{Numbers, begins, may_start, outcome_at, run}
use Rattle.sil_verifier_runs.specs.holder_model.Standing.{stands_at}
use Rattle.sil_verifier_runs.specs.holder_model.States.{Finishes, Goes, Runs, Task, Trapped}
use Rattle.sil_verifier_runs.specs.holder_model.StepParts.{slots_behind}
use Rattle.sil_verifier_runs.specs.holder_model.Steps as holder_run
use Rattle.sil_verifier_runs.specs.holder_model.declared.row_effect.RowEffect.TheVariants as row
use Rattle.sil_verifier_runs.specs.holder_model.declared.trap.Trap.{Trap}
use Rattle.sil_verifier_runs.specs.holder_model.LoweredRun.LowFrames.{LowFrame}
use Rattle.sil_verifier_runs.specs.holder_model.LoweredRun.LowStepParts.{LowState}
use Rattle.sil_verifier_runs.specs.holder_model_laws.HolderLaws.inner.Steps.Ways.{left_with, moved}
use Rattle.sil_verifier_runs.specs.holder_model_laws.StoredCounts.inner.Numbers.{AreCounts}
use Rattle.ownership_lowering_runs.specs.StoredRuns.inner.CallsAlong.{HandsFullParts}
use Rattle.ownership_lowering_runs.specs.StoredRuns.inner.Frames.{AreTasksFor, HasFullParts}
use Rattle.ownership_lowering_runs.specs.StoredRuns.inner.PlaceRows.{GoesAlong, stored_for}
use Rattle.ownership_lowering_runs.specs.StoredRuns.inner.SparedParts.{SparesParts}
use Rattle.ownership_lowering_runs.specs.StoredRuns.inner.RowsRight.{RowRight, TrapRight}
use Rattle.ownership_lowering_runs.specs.StoredRuns.inner.TypedSteps.{IsTypedFor}
use Rattle.ownership_lowering_runs.specs.SameRuns.inner.Followed.{EndsToo}

-- the first frame stands at an instruction, and has its operands
pub record AtInst (m : Module) (s : HolderState) : Type 0 where
  pub frame : Frame
  pub rest : List (Task Frame)
  pub f : Function
  pub i : Inst
  pub ops : Operands
  pub is : s.tasks ≡ Runs frame ∷ rest
  pub there : slice_get m.functions frame.function.0 ≡ Some f
  pub here : inst_at f (stands_at f frame.trail) ≡ Some i
  pub found : operands_of (facts_told (facts_of m) frame.function) s.memory frame.entries (item_taken f (item.Inst (stands_at f frame.trail))) ≡ Ok ops

module _ (m : Module) (bound : ℕ) (s : HolderState) (x : AtInst m s) where
  abbrev pub effect_there : effects.Effect HolderFault
  effect_there = holder_run.effect_in m (facts_of m) bound s x.frame x.i x.ops.given

  -- its row is no call's
  abbrev pub IsNoCall : Type 0
  IsNoCall = effect_of x.i.op ≡ row.CallsFunction → ⊥

  -- it makes the change, and leaves these slots and entries
  pub record LeavesSo (c : Change) (slots : List Place) (entries : List Entry) : Type 0 where
    pub makes : effect_there ≡ effects.Makes c
    pub slots_left : slots_behind c.slots x.frame.slots ≡ Ok slots
    pub put : results_put (facts_told (facts_of m) x.frame.function) (item_defined x.f (item.Inst
        (stands_at x.f x.frame.trail))) c.results x.ops.left ≡ Ok entries

  abbrev pub behind_it : Change → List Place → List Entry → HolderState
  behind_it c slots entries =
      moved m (facts_of m) bound s x.rest (left_with m (facts_of m) bound x.frame x.ops) (item.Inst (stands_at x.f x.frame.trail)) c slots entries

  abbrev pub stored_there : Change → List Numbers → List Numbers
  stored_there c stored = stored_for m s x.frame x.i x.ops.given c stored

-- a state that a run of the module comes to, from an entry at which one may start
pub record IsComeTo (m : Module) (bound : ℕ) (s : HolderState) : Type 0 where
  pub e : FuncId
  pub f : Function
  pub there : slice_get m.functions e.0 ≡ Some f
  pub may : may_start f ≡ true
  pub steps : ℕ
  pub comes : run (holder_run.step m (facts_of m) bound) steps (begins e f) ≡ Goes s

-- it is so in each right state of a run of an accepted module
abbrev pub OnRightStates : (Module → ℕ → HolderState → Type 0) → Type 0
OnRightStates P = (m : Module) (bound : ℕ) (s : HolderState) → IsVerified m → IsRightState m s → P m bound s

-- ---- what rows find

-- where an instruction that is no call goes on, the lowered run goes along
abbrev pub RowsGoAlong : Type 0
RowsGoAlong = OnRightStates (λ m bound s. (l : LowState) (x : AtInst m s) → IsTypedFor m s l → IsNoCall m bound s x
    → (c : Change) (slots : List Place) (entries : List Entry) → LeavesSo m bound s x c slots entries
    → GoesAlong m bound l (behind_it m bound s x c slots entries) (stored_there m bound s x c l.numbers))

-- where it traps, the lowered run does so
abbrev pub RowsTrapAlong : Type 0
RowsTrapAlong = OnRightStates (λ m bound s. (l : LowState) (x : AtInst m s) → IsTypedFor m s l → IsNoCall m bound s x
    → (t : Trap) → effect_there m bound s x ≡ effects.Traps t → EndsToo m bound l (outcome_at (Trapped t) s))

-- where a row makes a change, it finds what it needs for that
abbrev pub RowsAreRight : Type 0
RowsAreRight = OnRightStates (λ m bound s. (l : LowState) (x : AtInst m s) → IsTypedFor m s l → IsNoCall m bound s x
    → (c : Change) (slots : List Place) (entries : List Entry) → LeavesSo m bound s x c slots entries
    → RowRight m s l x.frame x.f x.i x.ops c × (list_any (is_dead s.memory) c.retained ≡ false))

-- it spares the parts that frames were given
abbrev pub ArePartsSpared : Type 0
ArePartsSpared = OnRightStates (λ m bound s. (l : LowState) (x : AtInst m s) → IsTypedFor m s l → IsNoCall m bound s x
    → (c : Change) (slots : List Place) (entries : List Entry) → LeavesSo m bound s x c slots entries → SparesParts m s l x.frame x.f x.i x.ops)

-- no dead object is retained
abbrev pub AreRetainedAlive : Type 0
AreRetainedAlive = OnRightStates (λ m bound s. (x : AtInst m s) → IsNoCall m bound s x
    → (c : Change) (slots : List Place) (entries : List Entry) → LeavesSo m bound s x c slots entries → list_any (is_dead s.memory) c.retained ≡ false)

-- where a row traps, it finds what it needs for that
abbrev pub TrapsAreRight : Type 0
TrapsAreRight = OnRightStates (λ m bound s. (l : LowState) (x : AtInst m s) → IsTypedFor m s l → IsNoCall m bound s x
    → (t : Trap) → effect_there m bound s x ≡ effects.Traps t → TrapRight m s x.frame x.i x.ops t)

-- a part that a call hands over is full, where places hold what is asked
abbrev pub ArePartsHandedFull : Type 0
ArePartsHandedFull = OnRightStates (λ m bound s. (x : AtInst m s) → HandsFullParts m bound s x.frame x.f x.i x.ops)

-- an object that dies has no part that a frame was given
abbrev pub PartsOutlive : Type 0
PartsOutlive = OnRightStates (λ m bound s. (l : LowState) (o : ObjectId) (rest : List (Task Frame)) (lrest : List (Task LowFrame)) → IsTypedFor m s l
    → s.tasks ≡ Finishes [] o ∷ rest → strong_holders (record s { tasks = rest }) o ≡ 0 → AreTasksFor m rest lrest → Each (HasFullParts m l.memory) lrest
    → Each (HasFullParts m (with_object l.memory o (ended (object_at l.memory o)))) lrest)

-- ---- what is counted

-- behind a call the stored numbers are the counts of holders
abbrev pub AreCallsCounted : Type 0
AreCallsCounted = OnRightStates (λ m bound s. (next : HolderState) (stored : List Numbers) (x : AtInst m s) → effect_of x.i.op ≡ row.CallsFunction
    → holder_run.step m (facts_of m) bound s ≡ Goes next → AreCounts s stored → AreCounts next stored)
