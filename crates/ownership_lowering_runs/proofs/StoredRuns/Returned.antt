-- What is returned reaches the task below in both runs.
use Rattle.std.proofs.Common.{◌≡◌, ℕ, List, [], ◌∷◌, length, refl, sym, ap, ◌∙◌, subst, false, Some}
use Rattle.std.specs.Prelude.{slice_get}
use Rattle.std.proofs.lemmas.Option.{same_Some}
use Rattle.numbered_form.specs.Lists.{Each}
use Rattle.sil_ast.specs.declared.function.Function.{Function}
use Rattle.sil_ast.specs.declared.module.Module.{Module}
use Rattle.sil_ast.specs.declared.place.FuncId.{FuncId}
use Rattle.sil_ast.specs.declared.place.ObjectId.{ObjectId}
use Rattle.sil_ast.specs.declared.place.PointId.{PointId}
use Rattle.sil_cfg.specs.declared.item.Item.TheVariants as item
use Rattle.sil_cfg_items.specs.Items.{item_defined}
use Rattle.sil_types_declarations.specs.TypeDefinitions.Declarations.{Declarations, declarations_of}
use Rattle.holder_model_values.specs.RunValues.Values.{Value, references_of}
use Rattle.sil_verifier_runs.specs.holder_model.Data.{Datum, as_value, references_in}
use Rattle.sil_verifier_runs.specs.holder_model.Effects.{unchanged}
use Rattle.sil_verifier_runs.specs.holder_model.Faults.{WrongShape}
use Rattle.sil_verifier_runs.specs.holder_model.Frames.{Frame, any_dead}
use Rattle.sil_verifier_runs.specs.holder_model.HolderStates.{HolderNext, HolderState}
use Rattle.sil_verifier_runs.specs.holder_model.ModuleFacts.{facts_of}
use Rattle.sil_verifier_runs.specs.holder_model.ModuleShapes.{ModuleShapes, shapes_of}
use Rattle.sil_verifier_runs.specs.holder_model.Outcomes.{returned_holders}
use Rattle.sil_verifier_runs.specs.holder_model.Standing.{stands_at}
use Rattle.sil_verifier_runs.specs.holder_model.States.{Drops, Ends, Finishes, Goes, Returned, Runs, Task}
use Rattle.sil_verifier_runs.specs.holder_model.LoweredRun.LowFrames.{LowFrame}
use Rattle.sil_verifier_runs.specs.holder_model.LoweredRun.LowStepParts.{LowNext, LowState}
use Rattle.sil_verifier_runs.specs.holder_model.LoweredRun.Stored.{numbers_of}
use Rattle.sil_verifier_runs.specs.ownership_kinds_origins.Renamings.{renames}
use Rattle.ownership_lowering_laws.specs.ownership_lowering_model.LoweredInsts.{lowering_of}
use Rattle.ownership_lowering_laws.specs.ownership_lowering_model.LoweredModules.{lowered, lowered_body}
use Rattle.ownership_lowering_laws.specs.ownership_lowering_model.declared.lowering.Lowering.TheVariants as lowering
use Rattle.sil_verifier_runs.specs.holder_model_laws.HolderLaws.inner.Steps.Ways as holder
use Rattle.sil_verifier_runs.specs.holder_model_laws.LoweredSteps.inner.LowWays as ways
use Rattle.ownership_lowering_runs.specs.StoredRuns.inner.Along.{AreTotalsFor, IsNextAlong, IsNoFault}
use Rattle.ownership_lowering_runs.specs.StoredRuns.inner.Frames.{AreTasksFor, HasFullParts, IsFrameAt, IsFrameFor, IsTaskFor}
use Rattle.ownership_lowering_runs.specs.StoredRuns.inner.Lowering.{IsOwnName, LowersSo}
use Rattle.ownership_lowering_runs.specs.StoredRuns.inner.Memories.{IsMemoryFor}
use Rattle.ownership_lowering_runs.specs.StoredRuns.inner.Returned.{AreCountsReturned, AreReturned, TakesResult, WaitsAtCall}
use Rattle.ownership_lowering_runs.specs.StoredRuns.inner.Runs.{IsEndingFor}
use Rattle.ownership_lowering_runs.proofs.StoredRuns.EdgesTaken.{value_is}
use Rattle.ownership_lowering_runs.proofs.StoredRuns.Along.GoesAlong.{goes_along, puts_own}
use Rattle.ownership_lowering_runs.proofs.StoredRuns.LeftObjects.{left_for}
use Rattle.ownership_lowering_runs.proofs.StoredRuns.Reading.{defines_there}
use Rattle.ownership_lowering_runs.proofs.StoredRuns.SameRows.{none_dead}
use Rattle.ownership_lowering_runs.proofs.StoredRuns.StandsStaying.{behind_at, defines_same}
use Rattle.ownership_lowering_runs.proofs.StoredRuns.StayingSteps.{function_there, low_frame}

-- ---- tasks

pub low_finish : (m : Module) (deinits : List FuncId) (o : ObjectId) (x : Task LowFrame) → IsTaskFor m (Finishes deinits o) x → x ≡ Finishes deinits o
low_finish m _ _ _ (IsTaskFor.finishes deinits o) = refl

module _ (m : Module) (bound : ℕ) (s : HolderState) (l : LowState) (x : Datum)
    (totals : AreTotalsFor s l) (memory : IsMemoryFor s.memory l.memory) (size : length l.numbers ≡ length s.memory.objects)
    (alive : any_dead s.memory (references_in x) ≡ false) where
  abbrev d : Declarations
  d = declarations_of m

  abbrev low_told : ModuleShapes
  low_told = shapes_of (lowered m)

  -- whatever the tasks are
  same_totals : {tasks : List (Task Frame)} {lows : List (Task LowFrame)} → AreTotalsFor (record s { tasks = tasks }) (record l { tasks = lows })
  same_totals = record { events = totals.events; turns = totals.turns; retains = totals.retains; releases = totals.releases }

  pub record LowReaches (tasks : List (Task LowFrame)) (next : HolderNext) : Type 0 where
    pub low_next : LowNext
    pub way : ways.Reaches (lowered m) low_told bound l x tasks low_next
    pub for : IsNextAlong m l.numbers next low_next

  -- the run ends
  ends_run : (v : Value) → as_value x ≡ Some v → AreCountsReturned s l v → LowReaches [] (Ends (Returned v) (record s { tasks = [] }))
  ends_run v value counted = record {
    low_next = Ends (Returned v) (record l { tasks = [] });
    way = ways.Reaches.ends v value
        (none_dead s.memory l.memory memory (references_of v)
        (ap (λ z. any_dead s.memory (references_in z)) (sym (value_is x v value)) ∙ alive));
    for = IsNextAlong.ends (Returned v) (record s { tasks = [] }) (Returned v) (record l { tasks = [] })
        (record {
          events = totals.events;
          ending = IsEndingFor.returned v;
          left = left_for s.memory l.memory memory (returned_holders (record s { tasks = [] }) (references_of v)) (numbers_of l.numbers) counted;
          retains = totals.retains;
          releases = totals.releases;
        });
  }

  -- the frame that waits goes on
  module _ (waiting : Frame) (others : List (Task Frame)) (g : Function) (there_g : slice_get m.functions waiting.function.0 ≡ Some g)
      (lowers_g : LowersSo m waiting.function g) (waits : WaitsAtCall g waiting)
      (lw : LowFrame) (lothers : List (Task LowFrame)) (of : IsFrameFor m waiting lw) (others_for : AreTasksFor m others lothers)
      (full_g : Each (HasFullParts m l.memory) (Runs lw ∷ lothers)) where
    abbrev q : PointId
    q = stands_at g waiting.trail

    frames_g : IsFrameAt d g waiting lw
    frames_g = subst (λ h. IsFrameAt d h waiting lw) (same_Some of.f g (sym of.there ∙ there_g)) of.frames

    stays : lowering_of waits.call.op ≡ lowering.Stays
    stays = ap lowering_of waits.is

    keeps : renames waits.call.op ≡ false
    keeps = ap renames waits.is

    own : Each (IsOwnName g) (item_defined g (item.Inst q))
    own = subst (Each (IsOwnName g)) (sym (defines_there g q waits.call waits.here)) (lowers_g.results q waits.call waits.here keeps)

    no_entry : item.Inst q ≡ item.Entry → ⊥
    no_entry h = absurd (cc)

    resumes : (next : HolderNext)
        → holder.GoesBehind m (facts_of m) bound s others waiting g (item.Inst q) (record (unchanged s.memory) { results = x ∷ [] }) next → IsNoFault next
        → LowReaches (Runs lw ∷ lothers) next
    resumes next way none =
        let b = goes_along m bound s l totals memory size waiting others g lowers_g there_g lw lothers frames_g others_for full_g
        (item.Inst q) (item.Inst lw.at) (behind_at d g q waits.call waits.here stays lw.at frames_g.at) (x ∷ []) (x ∷ [])
        (λ entries put. puts_own m bound s l totals memory size waiting others g lowers_g there_g lw lothers frames_g others_for full_g
        (item.Inst q) no_entry own (item.Inst lw.at) (defines_same d g q waits.call waits.here stays lw.at frames_g.at) (x ∷ []) entries put)
        next way none in
        record {
          low_next = b.low_next;
          way = ways.Reaches.resumes lw lothers (lowered_body d g) b.low_next
              (ap (λ (h : FuncId). slice_get (lowered m).functions h.0) frames_g.function ∙ function_there m bound waiting.function.0 g there_g lowers_g.form) b.way;
          for = b.for;
        }

  reaches : (tasks : List (Task Frame)) (lows : List (Task LowFrame)) → AreTasksFor m tasks lows → Each (HasFullParts m l.memory) lows → TakesResult m s l x tasks
      → (next : HolderNext) → holder.Reaches m (facts_of m) bound s x tasks next → IsNoFault next → LowReaches lows next
  reaches [] [] h fs owes _ (holder.Reaches.ends v value) none = ends_run v value (owes v value)
  reaches [] [] h fs owes _ (holder.Reaches.no_value e) none = absurd (none WrongShape s refl)
  reaches [] (t ∷ lows) h fs owes next way none = absurd h
  reaches (t ∷ tasks) [] h fs owes next way none = absurd h
  reaches (Runs waiting ∷ tasks) (t ∷ lows) h fs owes _ (holder.Reaches.resumes _ _ g next there_g way) none =
      let lw = low_frame m waiting t h.0 in
      let owed = owes g there_g in
      subst (λ u. LowReaches (u ∷ lows) next) (sym lw.1)
      (resumes waiting tasks g there_g owed.0 owed.1 lw.0 lows lw.2 h.1 (subst (λ u. Each (HasFullParts m l.memory) (u ∷ lows)) lw.1 fs) next way none)
  reaches (Runs waiting ∷ tasks) (t ∷ lows) h fs owes _ (holder.Reaches.no_function _ _ e) none = absurd (none WrongShape s refl)
  reaches (Drops references ∷ tasks) (t ∷ lows) h fs owes _ (holder.Reaches.on_drops _ _) none = absurd (none WrongShape s refl)
  reaches (Finishes deinits object ∷ tasks) (t ∷ lows) h fs owes _ (holder.Reaches.finishes _ _ _) none =
      let same = low_finish m deinits object t h.0 in
      subst (λ u. LowReaches (u ∷ lows) (Goes (record s { tasks = Finishes deinits object ∷ tasks }))) (sym same)
      (record {
        low_next = Goes (record l { tasks = Finishes deinits object ∷ lows });
        way = ways.Reaches.finishes deinits object lows;
        for = IsNextAlong.goes (record s { tasks = Finishes deinits object ∷ tasks }) (record l { tasks = Finishes deinits object ∷ lows })
            (record { tasks = (IsTaskFor.finishes deinits object, h.1); memory = memory; parts = (tt, fs.1); totals = same_totals }) refl;
      })

pub are_returned : AreReturned
are_returned m bound s l x rest lrest next totals memory size rest_for full alive owes way none =
    let r = reaches m bound s l x totals memory size alive rest lrest rest_for full owes next way none in (r.low_next, r.way, r.for)
