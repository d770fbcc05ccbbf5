-- A function with a body is called: both runs enter it.
use Rattle.std.proofs.Common.{◌≡◌, inl, inr, ℕ, ◌+◌, ◌<◌, List, [], ◌∷◌, length, map, refl, sym, ap, ◌∙◌, subst, Bool, true, false, Option, Some, None, Ok}
use Rattle.std.specs.Prelude.{nat_lt, slice_get}
use Rattle.std.specs.List.{AllZip}
use Rattle.std.proofs.lemmas.List.{length-map, length-replicate}
use Rattle.std.proofs.lemmas.Option.{none-some, same_Some}
use Rattle.numbered_form.specs.Lists.{Each}
use Rattle.sil_ast.specs.declared.function.Function.{Function}
use Rattle.sil_ast.specs.declared.module.Module.{Module}
use Rattle.sil_ast.specs.declared.place.FuncId.{FuncId}
use Rattle.sil_ast.specs.declared.place.ValueId.{ValueId}
use Rattle.sil_cfg.specs.declared.item.Item.TheVariants as item
use Rattle.sil_cfg_items.specs.Items.{item_defined}
use Rattle.ownership_kinds_chains.specs.declared.ownership_chains.facts.Facts.{Facts}
use Rattle.sil_types_declarations.specs.TypeDefinitions.Declarations.{Declarations, declarations_of}
use Rattle.sil_verifier_runs.specs.sil_verifier_trails.AcceptedTrails.inner.Defined.{makes}
use Rattle.sil_verifier_runs.proofs.sil_verifier_trails.AcceptedTrails.Tests.{each_among}
use Rattle.ownership_lowering_laws.proofs.holder_model_typing.RunTypingLaws.ItemFacts.{values_counted}
use Rattle.sil_verifier_runs.specs.holder_model.declared.limits.TheConstants.{FRAMES}
use Rattle.sil_verifier_runs.specs.holder_model.declared.trap.Trap.TheVariants as trap
use Rattle.sil_verifier_runs.specs.holder_model.Calling.{value_count}
use Rattle.sil_verifier_runs.specs.holder_model.Data.{AddressOf, Datum, FunctionOf, ValueOf}
use Rattle.sil_verifier_runs.specs.holder_model.Frames.{Entry, Frame, datum_in, no_entries, results_put}
use Rattle.sil_verifier_runs.specs.holder_model.HolderStates.{HolderNext, HolderState}
use Rattle.sil_verifier_runs.specs.holder_model.ModuleFacts.{facts_of, facts_told}
use Rattle.sil_verifier_runs.specs.holder_model.ModuleShapes.{ModuleShapes, shapes_of}
use Rattle.sil_verifier_runs.specs.holder_model.StepParts as parts
use Rattle.sil_verifier_runs.specs.holder_model.States.{Ends, Goes, OutOfTurns, Runs, Task, Trapped, frame_count}
use Rattle.sil_verifier_runs.specs.holder_model.LoweredRun.LowFrames.{LowFrame, no_values, put_all}
use Rattle.sil_verifier_runs.specs.holder_model.LoweredRun.LowStepParts.{LowNext, LowState, new_frame}
use Rattle.numbered_form.proofs.Lists.{each_weaker}
use Rattle.ownership_lowering_laws.specs.ownership_lowering_model.LoweredModules.{lowered, lowered_body}
use Rattle.sil_verifier_runs.specs.holder_model_laws.HolderLaws.inner.Steps.Ways as holder
use Rattle.sil_verifier_runs.specs.holder_model_laws.LoweredSteps.inner.LowWays as ways
use Rattle.ownership_lowering_runs.specs.StoredRuns.inner.Along.{AreTotalsFor, IsAlong, IsNextAlong, IsNoFault}
use Rattle.ownership_lowering_runs.specs.StoredRuns.inner.Entering.{AreEntered, HandsOver, IsAddressFor, IsArgumentFor, IsFullPart}
use Rattle.ownership_lowering_runs.specs.StoredRuns.inner.Frames.{AreTasksFor, HasFullParts, IsFrameFor, IsTaskFor}
use Rattle.ownership_lowering_runs.specs.StoredRuns.inner.Lowering.{IsOwnName, LowersSo}
use Rattle.ownership_lowering_runs.specs.StoredRuns.inner.Memories.{IsMemoryFor}
use Rattle.ownership_lowering_runs.specs.StoredRuns.inner.Names.{IsCurrent, IsOld, lowered_count, lowered_number}
use Rattle.ownership_lowering_runs.specs.StoredRuns.inner.Runs.{IsEndingFor}
use Rattle.ownership_lowering_runs.proofs.StoredRuns.Lowered.LoweredCode.{first_lowered}
use Rattle.ownership_lowering_runs.proofs.StoredRuns.PutValues.{no_entry, no_value, put_holds, put_total}
use Rattle.ownership_lowering_runs.proofs.StoredRuns.Reading.{Like, behind_current}
use Rattle.ownership_lowering_runs.proofs.StoredRuns.ValuesFor.{AreLike, ArePut, results_shown}

-- ---- as many frames

same_frames : (m : Module) (task : Task Frame) (low : Task LowFrame) (tasks : List (Task Frame)) (lows : List (Task LowFrame)) → IsTaskFor m task low
    → frame_count lows ≡ frame_count tasks → frame_count (low ∷ lows) ≡ frame_count (task ∷ tasks)
same_frames m _ _ tasks lows (IsTaskFor.runs frame low h) e = ap (λ j. 1 + j) e
same_frames m _ _ tasks lows (IsTaskFor.drops references) e = e
same_frames m _ _ tasks lows (IsTaskFor.finishes deinits o) e = e

pub frames_for : (m : Module) (tasks : List (Task Frame)) (lows : List (Task LowFrame)) → AreTasksFor m tasks lows → frame_count lows ≡ frame_count tasks
frames_for m [] [] h = refl
frames_for m [] (low ∷ lows) h = absurd h
frames_for m (task ∷ tasks) [] h = absurd h
frames_for m (task ∷ tasks) (low ∷ lows) h = same_frames m task low tasks lows h.0 (frames_for m tasks lows h.1)

module _ (m : Module) (bound : ℕ) (s : HolderState) (l : LowState) (rest : List (Task Frame)) (lrest : List (Task LowFrame))
    (g : FuncId) (callee : Function) (xs ys : List Datum)
    (totals : AreTotalsFor s l) (memory : IsMemoryFor s.memory l.memory) (rest_for : AreTasksFor m rest lrest) (full : Each (HasFullParts m l.memory) lrest)
    (there : slice_get m.functions g.0 ≡ Some callee) (lowers : LowersSo m g callee) (hands : HandsOver (declarations_of m) l.memory callee xs ys) where
  abbrev d : Declarations
  d = declarations_of m

  abbrev low_told : ModuleShapes
  low_told = shapes_of (lowered m)

  abbrev lc : Function
  lc = lowered_body d callee

  abbrev number : ValueId → ValueId
  number v = lowered_number d callee v

  abbrev facts : ValueId → Option Facts
  facts v = facts_told (facts_of m) g v

  abbrev args : List ValueId
  args = item_defined callee item.Entry

  abbrev Given : ValueId → Type 0
  Given v = makes callee v item.Entry ≡ true

  all_given : Each Given args
  all_given = each_among (λ (r : ValueId). r) Given args (λ r h. h)

  own : Each (IsOwnName callee) args
  own = each_weaker Given (IsOwnName callee) lowers.given args all_given

  counted : value_count lc ≡ lowered_count d callee
  counted = values_counted lc

  one_like : (r : ValueId) (x y : Datum) → Given r → IsArgumentFor x y → IsAddressFor d callee r y → Like d callee lowers.named r x y
  one_like r x (ValueOf u) given e a = inl e
  one_like r x (AddressOf p) given e a = let s = a p refl in inr (record { made = given; shape = s.0; is = s.1 }, e)
  one_like r x (FunctionOf h) given e a = inl e

  like_of : (rs : List ValueId) (xs ys : List Datum) → Each Given rs → AllZip IsArgumentFor xs ys → AllZip (IsAddressFor d callee) rs ys
      → AreLike number (Like d callee lowers.named) rs xs ys
  like_of [] [] [] h k a = tt
  like_of [] [] (y ∷ ys) h k a = absurd k
  like_of [] (x ∷ xs) ys h k a = tt
  like_of (r ∷ rs) [] ys h k a = tt
  like_of (r ∷ rs) (x ∷ xs) [] h k a = absurd k
  like_of (r ∷ rs) (x ∷ xs) (y ∷ ys) h k a = (one_like r x y h.0 k.0 a.0, like_of rs xs ys h.1 k.1 a.1)

  low_defines : item_defined lc item.Entry ≡ map number args
  low_defines = lowers.entry

  as_many : length ys ≡ length (item_defined lc item.Entry)
  as_many = hands.as_many ∙ sym (length-map args number) ∙ ap length (sym low_defines)

  abbrev no_low : List (Option Datum)
  no_low = no_values (value_count lc)

  module _ (entries : List Entry) (put : results_put facts args xs (no_entries (value_count callee)) ≡ Ok entries) where
    putting : ArePut number (Like d callee lowers.named) facts args ys entries no_low (λ v. IsOld callee v × IsCurrent callee [] v)
    putting =
        results_shown number (Like d callee lowers.named) facts args xs ys (like_of args xs ys all_given hands.same hands.addresses) (no_entries (value_count callee)) entries no_low
        (λ v. IsOld callee v × IsCurrent callee [] v)
        (each_weaker (IsOwnName callee) (λ r. (number r).0 < length no_low)
        (λ r o. subst (λ n. (number r).0 < n) (sym (length-replicate (value_count lc) None ∙ counted)) (lowers.named.few r o.0)) args own)
        put (λ v x e ok. absurd (none-some x (sym (ap datum_in (no_entry (value_count callee) v)) ∙ e)))

    low_put : put_all (item_defined lc item.Entry) ys no_low ≡ Some putting.values'
    low_put = ap (λ vs. put_all vs ys no_low) low_defines ∙ putting.is

    frame_for : IsFrameFor m (parts.new_frame g entries) (new_frame g putting.values')
    frame_for = record {
      f = callee;
      there = there;
      frames = record {
        function = refl;
        at = first_lowered d callee 0;
        slots = refl;
        size = putting.size ∙ length-replicate (value_count lc) None ∙ counted;
        values = behind_current d callee lowers.named [] item.Entry args refl own entries putting.values' putting.shown;
      };
    }

    full_for : HasFullParts m l.memory (Runs (new_frame g putting.values'))
    full_for h is v p given at part =
        let same : callee ≡ h = same_Some callee h (sym there ∙ is) in
        put_holds (IsFullPart l.memory) (item_defined lc item.Entry) ys no_low putting.values' (lowered_number d h v) low_put hands.full
        (λ u k. absurd (none-some u (sym (no_value (value_count lc) (lowered_number d h v)) ∙ k))) (AddressOf p) at p refl part

    along : IsAlong m (record (holder.turned s) { tasks = Runs (parts.new_frame g entries) ∷ rest }) (record (ways.turned l) { tasks = Runs (new_frame g putting.values') ∷ lrest })
    along = record {
      tasks = (IsTaskFor.runs _ _ frame_for, rest_for);
      memory = memory;
      parts = (full_for, full);
      totals = record { events = totals.events; turns = ap (λ n. n + 1) totals.turns; retains = totals.retains; releases = totals.releases };
    }

  pub record LowEntered (next : HolderNext) : Type 0 where
    pub low_next : LowNext
    pub way : ways.Enters (lowered m) low_told bound l lrest g lc ys low_next
    pub for : IsNextAlong m l.numbers next low_next

  depth : (b : Bool) → nat_lt (frame_count rest) FRAMES ≡ b → nat_lt (frame_count lrest) FRAMES ≡ b
  depth b e = ap (λ n. nat_lt n FRAMES) (frames_for m rest lrest rest_for) ∙ e

  turn : (b : Bool) → nat_lt s.turns bound ≡ b → nat_lt l.turns bound ≡ b
  turn b e = ap (λ n. nat_lt n bound) totals.turns ∙ e

  put_so : (values' : List (Option Datum)) × (put_all (item_defined lc item.Entry) ys no_low ≡ Some values')
  put_so = put_total (item_defined lc item.Entry) ys no_low as_many

  entered : (next : HolderNext) → holder.Enters m (facts_of m) bound s rest g callee xs next → IsNoFault next → LowEntered next
  entered _ (holder.Enters.enters entries put deep some) none = record {
    low_next = Goes (record (ways.turned l) { tasks = Runs (new_frame g (putting entries put).values') ∷ lrest });
    way = ways.Enters.enters (putting entries put).values' (low_put entries put) (depth true deep) (turn true some);
    for = IsNextAlong.goes _ _ (along entries put) refl;
  }
  entered _ (holder.Enters.wrong_argument x e) none = absurd (none x s refl)
  entered _ (holder.Enters.too_deep deep) none = record {
    low_next = Ends (Trapped trap.Depth) l;
    way = ways.Enters.too_deep put_so.0 put_so.1 (depth false deep);
    for = IsNextAlong.ends (Trapped trap.Depth) s (Trapped trap.Depth) l
        (record { events = totals.events; ending = IsEndingFor.trapped trap.Depth; left = refl; retains = totals.retains; releases = totals.releases });
  }
  entered _ (holder.Enters.no_turn deep some) none = record {
    low_next = Ends OutOfTurns l;
    way = ways.Enters.no_turn put_so.0 put_so.1 (depth true deep) (turn false some);
    for = IsNextAlong.ends OutOfTurns s OutOfTurns l
        (record { events = totals.events; ending = IsEndingFor.out_of_turns; left = refl; retains = totals.retains; releases = totals.releases });
  }

pub are_entered : AreEntered
are_entered m bound s l rest lrest g callee xs ys next totals memory rest_for full there lowers hands way none =
    let e = entered m bound s l rest lrest g callee xs ys totals memory rest_for full there lowers hands next way none in (e.low_next, e.way, e.for)
