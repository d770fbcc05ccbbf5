-- Steps of the instructions that stand in the place of the one at which both runs stand, and what is behind them.
use Rattle.std.proofs.Common.{◌≡◌, ℕ, suc, ◌+◌, ◌<◌, List, [], ◌∷◌, map, length, sym, ap, ◌∙◌, subst, Bool, true, false, cond, Option, Some, None, Ok}
use Rattle.std.specs.Prelude.{find, is_some, not, ◌||◌, ◌++◌, slice_get}
use Rattle.numbered_form.specs.Lists.{Each}
use Rattle.sil_ast.specs.declared.function.Function.{Function}
use Rattle.sil_ast.specs.declared.inst.Inst.{Inst}
use Rattle.sil_ast.specs.declared.module.Module.{Module}
use Rattle.sil_ast.specs.declared.place.ObjectId.{ObjectId}
use Rattle.sil_ast.specs.declared.place.ValueId.{ValueId}
use Rattle.sil_cfg.specs.declared.item.Item.{Item}
use Rattle.sil_cfg.specs.declared.item.Item.TheVariants as item
use Rattle.sil_cfg_items.specs.Items.{item_defined}
use Rattle.sil_cfg_items.specs.Parts.{inst_at}
use Rattle.sil_cfg_items.specs.Roles.{taken_by}
use Rattle.sil_types_declarations.specs.TypeDefinitions.Declarations.{Declarations, declarations_of}
use Rattle.holder_model_values.specs.RunValues.Memory.{Memory, is_dead}
use Rattle.holder_model_values.specs.RunValues.Places.{Place, is_there_at, value_at}
use Rattle.holder_model_values.specs.RunValues.Shapes.{Shape}
use Rattle.sil_verifier_runs.specs.holder_model.Data.{Datum, home_references}
use Rattle.sil_verifier_runs.specs.holder_model.Effects as effects
use Rattle.sil_verifier_runs.specs.holder_model.Effects.{Change, Effect, Makes}
use Rattle.sil_verifier_runs.specs.holder_model.Frames.{Entry, Frame, Operands, results_put}
use Rattle.sil_verifier_runs.specs.holder_model.HolderStates.{HolderState}
use Rattle.sil_verifier_runs.specs.holder_model.ModuleFacts.{facts_of}
use Rattle.sil_verifier_runs.specs.holder_model.ModuleShapes.{ModuleShapes, shapes_in, shapes_of}
use Rattle.sil_verifier_runs.specs.holder_model.Outcomes.{Numbers}
use Rattle.sil_verifier_runs.specs.holder_model.Standing.{point_behind, stands_at}
use Rattle.sil_verifier_runs.specs.holder_model.States.{Task}
use Rattle.sil_verifier_runs.specs.holder_model.declared.lowered_run.low_fault.LowFault.{LowFault}
use Rattle.sil_verifier_runs.specs.holder_model.declared.lowered_run.low_fault.LowFault.TheVariants as fault
use Rattle.sil_verifier_runs.specs.holder_model.LoweredRun.LowEffects as low_effects
use Rattle.sil_verifier_runs.specs.holder_model.LoweredRun.LowEffects.{low_effect, stored_behind}
use Rattle.sil_verifier_runs.specs.holder_model.LoweredRun.LowFrames.{put_all, read_all}
use Rattle.sil_verifier_runs.specs.holder_model.LoweredRun.LowStepParts.{LowState, numbers_for, slots_behind, taken_value}
use Rattle.sil_verifier_runs.specs.holder_model.LoweredRun.Stored.{each_changed, one_more}
use Rattle.sil_verifier_runs.specs.ownership_kinds_origins.Renamings.{renames}
use Rattle.ownership_lowering_laws.specs.ownership_lowering_model.LoweredBlocks.{value_with}
use Rattle.ownership_lowering_laws.specs.ownership_lowering_model.LoweredInsts.{becomes}
use Rattle.ownership_lowering_laws.specs.ownership_lowering_model.LoweredModules.{lowered, lowered_body}
use Rattle.ownership_lowering_laws.specs.ownership_lowering_model.Numbers.{renumbered_inst}
use Rattle.sil_verifier_runs.specs.sil_verifier_trails.AcceptedTrails.inner.Defined.{makes}
use Rattle.sil_verifier_runs.proofs.sil_verifier_trails.AcceptedTrails.Tests.{each_among}
use Rattle.numbered_form.proofs.Lists.{each_weaker}
use Rattle.sil_verifier_runs.specs.holder_model_laws.HolderLaws.inner.Steps.Ways as holder
use Rattle.ownership_lowering_runs.specs.StoredRuns.inner.Frames.{AreGivenPartsFull, AreValuesFor, HasFullParts}
use Rattle.ownership_lowering_runs.specs.StoredRuns.inner.Lowering.{IsOwnName}
use Rattle.ownership_lowering_runs.specs.StoredRuns.inner.Memories.{IsMemoryFor}
use Rattle.ownership_lowering_runs.specs.StoredRuns.inner.Names.{IsCurrent, IsOld}
use Rattle.ownership_lowering_runs.specs.StoredRuns.inner.PlaceRows.{GoesAlong, LowGoes, StandsAt}
use Rattle.ownership_lowering_runs.specs.StoredRuns.inner.Points.{lowered_point}
use Rattle.ownership_lowering_runs.proofs.StoredRuns.Along.GoesAlong.{other_numbers}
use Rattle.ownership_lowering_runs.proofs.StoredRuns.Lowered.LoweredCode.{IsLoweredTo, lowered_inst}
use Rattle.ownership_lowering_runs.proofs.StoredRuns.Reading.{Like, behind_current, defines_there, like_itself, taken_renumbered}
use Rattle.ownership_lowering_runs.proofs.StoredRuns.RowSteps as rows
use Rattle.ownership_lowering_runs.proofs.StoredRuns.PutValues.{put_other}
use Rattle.ownership_lowering_runs.proofs.StoredRuns.SameRows.{none_in_both}
use Rattle.ownership_lowering_runs.proofs.StoredRuns.StandsThere.{facts, given_parts, left, left_frames, number}
use Rattle.ownership_lowering_runs.proofs.StoredRuns.ValuesFor.{ArePut, like_same, results_shown}

-- ---- an access to a place that is there, full where it has to be, and in no dead object

module _ (d : Declarations) (told : ModuleShapes) (values : List Shape) (low : Memory) (j : Inst) where
  pub accessed_so : (q : Place) (os : List ObjectId) (full : Bool) (e : Effect LowFault) → is_there_at low q ≡ true → find (is_dead low) os ≡ None
      → find (is_dead low) (home_references q.home) ≡ None → (not full || is_some (value_at low q)) ≡ true → low_effects.accessed d told values low j q os full e ≡ e
  accessed_so q os full e there alive home ok =
      ap (λ b. cond b (low_effects.unless_dead d told values low j (os ++ home_references q.home)
      (cond (not full || is_some (value_at low q)) e (effects.Faults fault.Empty))) (effects.Faults fault.Slot)) there
      ∙ ap (low_effects.dead_or d told values low j (cond (not full || is_some (value_at low q)) e (effects.Faults fault.Empty)))
      (none_in_both low os (home_references q.home) alive home)
      ∙ ap (λ b. cond b e (effects.Faults fault.Empty)) ok

-- ---- the steps

module _ (m : Module) (bound : ℕ) (s : HolderState) (l : LowState) (frame : Frame) (rest : List (Task Frame)) (f : Function) (i : Inst) (ops : Operands)
    (x : StandsAt m s l frame rest f i ops) where
  abbrev pub low_told : ModuleShapes
  low_told = shapes_of (lowered m)

  abbrev pub low_shapes : List Shape
  low_shapes = shapes_in low_told x.low.function

  abbrev pub num : ValueId → ValueId
  num v = number m s l frame rest f i ops x v

  abbrev pub from : Frame
  from = left m s l frame rest f i ops x

  -- the lowered state at the instruction with this number of the block
  abbrev pub waits : List ObjectId → ℕ → List (Option Datum) → List Place → Memory → List Numbers → ℕ → LowState
  waits = rows.waits m bound l from f x.low x.lrest x.there x.lowers (left_frames m s l frame rest f i ops x)

  abbrev pub begin : ℕ
  begin = (lowered_point (declarations_of m) f (stands_at f frame.trail)).index

  abbrev pub end : ℕ
  end = (lowered_point (declarations_of m) f (point_behind (stands_at f frame.trail))).index

  pub lowered_to : IsLoweredTo (declarations_of m) f (stands_at f frame.trail) i
  lowered_to = lowered_inst (declarations_of m) f (stands_at f frame.trail) i x.here

  abbrev pub made : List Inst
  made = becomes (declarations_of m) (value_with lowered_to.spare) i

  -- the instruction with this number of those that stand there
  pub stands : (k n : ℕ) (j : Inst) → slice_get made k ≡ Some j → n ≡ begin + k
      → inst_at (lowered_body (declarations_of m) f) (record (stands_at f frame.trail) { index = n }) ≡ Some (renumbered_inst num j)
  stands k n j is at = ap (λ n. inst_at (lowered_body (declarations_of m) f) (record (stands_at f frame.trail) { index = n })) at ∙ lowered_to.each k j is

  -- it goes on from this state
  abbrev pub Reaches : LowState → Type 0
  Reaches last = LowGoes m bound last l

  pub begins : (last : LowState) → LowGoes m bound last (waits [] begin x.low.values x.low.slots l.memory l.numbers l.retains) → Reaches last
  begins last h =
      subst (LowGoes m bound last)
      (sym (rows.starts m bound l from f x.low x.lrest x.there x.lowers (left_frames m s l frame rest f i ops x) x.is_top)) h

  -- one instruction takes these values, and makes a change
  pub one_step : (n : ℕ) (values : List (Option Datum)) (slots : List Place) (memory : Memory) (numbers : List Numbers) (retains : ℕ)
      (j : Inst) (vs : List ValueId) (ys : List Datum) (c : Change) (slots' : List Place) (values' : List (Option Datum)) (last : LowState)
      → inst_at (lowered_body (declarations_of m) f) (record (stands_at f frame.trail) { index = n }) ≡ Some (renumbered_inst num j)
      → map taken_value (taken_by j) ≡ vs → read_all values (map num vs) ≡ Ok ys
      → low_effect (declarations_of m) low_told low_shapes memory (renumbered_inst num j) ys ≡ Makes c → slots_behind c.slots slots ≡ Ok slots'
      → put_all (map num j.results) c.results values ≡ Some values' → find (is_dead memory) c.retained ≡ None
      → LowGoes m bound last (waits c.dropped (suc n) values' slots' c.memory
      (numbers_for c.memory (each_changed one_more c.retained (stored_behind (declarations_of m) low_told low_shapes memory (renumbered_inst num j) ys numbers)))
      (retains + length c.retained))
      → LowGoes m bound last (waits [] n values slots memory numbers retains)
  one_step n values slots memory numbers retains j vs ys c slots' values' last here takes read eff slots_are put alive on =
      LowGoes.more (waits [] n values slots memory numbers retains) _
      (rows.mid_step m bound l from f x.low x.lrest x.there x.lowers (left_frames m s l frame rest f i ops x) n values slots memory numbers retains
      (renumbered_inst num j) ys c slots' values' here
      (ap (read_all values) (taken_renumbered num j ∙ ap (map num) takes) ∙ read) eff slots_are put alive)
      on

  -- behind the instruction
  pub behind_all : (c : Change) (slots : List Place) (entries : List Entry) (values : List (Option Datum)) (memory : Memory) (numbers : List Numbers) (stored : List Numbers)
      → Reaches (waits c.dropped end values slots memory numbers (l.retains + length c.retained))
      → length values ≡ length x.low.values → AreValuesFor (declarations_of m) f (item.Inst (stands_at f frame.trail) ∷ frame.trail) entries values
      → IsMemoryFor c.memory memory → AreGivenPartsFull (declarations_of m) f values memory → Each (HasFullParts m memory) x.lrest → numbers ≡ stored
      → GoesAlong m bound l (holder.moved m (facts_of m) bound s rest from (item.Inst (stands_at f frame.trail)) c slots entries) stored
  behind_all c slots entries values memory numbers stored goes size shown for parts below is = record {
    low_next = waits c.dropped end values slots memory numbers (l.retains + length c.retained);
    steps = goes;
    along = rows.behind_it m bound l from f x.low x.lrest x.there x.lowers (left_frames m s l frame rest f i ops x) s rest x.totals x.rest_for c slots entries values memory numbers
        size shown for parts below;
    numbers = is;
  }

  -- the stored numbers stay where no object is new
  pub same_numbers : numbers_for l.memory l.numbers ≡ l.numbers
  same_numbers = rows.numbers_stay l.memory l.numbers (x.size ∙ sym (rows.as_many_objects s.memory l.memory x.memory))

  -- ---- values that are put

  -- values that are put under the numbers of these results
  pub record PutsIn (rs : List ValueId) (ys : List Datum) (entries : List Entry) : Type 0 where
    pub values : List (Option Datum)
    pub put : put_all (map num rs) ys x.low.values ≡ Some values
    pub size : length values ≡ length x.low.values
    pub shown : AreValuesFor (declarations_of m) f (item.Inst (stands_at f frame.trail) ∷ frame.trail) entries values
    -- arguments stay what they were
    pub parts_in : (memory : Memory) → AreGivenPartsFull (declarations_of m) f x.low.values memory → AreGivenPartsFull (declarations_of m) f values memory
    pub parts : AreGivenPartsFull (declarations_of m) f values l.memory

  pub shown_left : AreValuesFor (declarations_of m) f frame.trail ops.left x.low.values
  shown_left = (left_frames m s l frame rest f i ops x).values

  pub puts_in : (rs : List ValueId) (ys : List Datum) (entries : List Entry) → i.results ≡ rs → renames i.op ≡ false
      → results_put (facts m s l frame rest f i ops x) (item_defined f (item.Inst (stands_at f frame.trail))) ys ops.left ≡ Ok entries → PutsIn rs ys entries
  puts_in rs ys entries results keeps put = record {
    values = putting.values';
    put = putting.is;
    size = putting.size;
    shown = behind_current (declarations_of m) f x.lowers.named frame.trail it rs defined owns entries putting.values' putting.shown;
    parts = keep l.memory (given_parts m s l frame rest f i ops x);
    parts_in = keep;
  }
    where
      it : Item
      it = item.Inst (stands_at f frame.trail)

      defined : item_defined f (item.Inst (stands_at f frame.trail)) ≡ rs
      defined = defines_there f (stands_at f frame.trail) i x.here ∙ results

      owns : Each (IsOwnName f) rs
      owns = subst (Each (IsOwnName f)) results (x.lowers.results (stands_at f frame.trail) i x.here keeps)

      putting : ArePut num (Like (declarations_of m) f x.lowers.named) (facts m s l frame rest f i ops x) rs ys entries x.low.values (λ v. IsOld f v × IsCurrent f frame.trail v)
      putting =
          results_shown num (Like (declarations_of m) f x.lowers.named) (facts m s l frame rest f i ops x) rs ys ys
          (like_same num (Like (declarations_of m) f x.lowers.named) (like_itself (declarations_of m) f x.lowers.named) rs ys) ops.left entries x.low.values
          (λ v. IsOld f v × IsCurrent f frame.trail v)
          (each_weaker (IsOwnName f) (λ r. (num r).0 < length x.low.values)
          (λ r o. subst (λ n. (num r).0 < n) (sym x.frames.size) (x.lowers.named.few r o.0)) rs owns)
          (subst (λ vs. results_put (facts m s l frame rest f i ops x) vs ys ops.left ≡ Ok entries) defined put) shown_left

      keep : (memory : Memory) → AreGivenPartsFull (declarations_of m) f x.low.values memory → AreGivenPartsFull (declarations_of m) f putting.values' memory
      keep memory h v q given at part =
          h v q given
          (sym (put_other (map num rs) ys x.low.values putting.values' (num v) putting.is
          (other_numbers m bound s l x.totals x.memory x.size from rest f x.lowers x.there x.low x.lrest (left_frames m s l frame rest f i ops x) x.rest_for x.full
          it (λ h. absurd (cc)) (subst (Each (IsOwnName f)) (sym defined) owns) v given.made rs owns
          (subst (Each (λ r. makes f r it ≡ true)) defined (each_among (λ (r : ValueId). r) (λ r. makes f r it ≡ true) (item_defined f it) (λ r h. h))))) ∙ at) part
