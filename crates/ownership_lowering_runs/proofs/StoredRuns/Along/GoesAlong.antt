-- A frame goes on behind an item that makes no references and drops none: the lowered frame does so too.
use Rattle.std.proofs.Common.{◌≡◌, ◌⊎◌, inl, inr, ℕ, ◌+◌, ◌<◌, List, [], ◌∷◌, ◌++◌, length, map, arith, refl, sym, ap, ◌∙◌, subst, true, false, cond, Option, Some, Ok, eq-eqb}
use Rattle.std.specs.Prelude.{◌==◌, slice_get}
use Rattle.std.proofs.lemmas.Bool.{cases_Bool, eqb-true}
use Rattle.std.proofs.lemmas.Option.{same_Some}
use Rattle.std.proofs.lemmas.Slice.Zip.{AllZip-long}
use Rattle.numbered_form.specs.Lists.{Each}
use Rattle.sil_ast.specs.declared.function.Function.{Function}
use Rattle.sil_ast.specs.declared.module.Module.{Module}
use Rattle.sil_ast.specs.declared.place.FuncId.{FuncId}
use Rattle.sil_ast.specs.declared.place.ValueId.{ValueId}
use Rattle.sil_cfg.specs.declared.item.Item.{Item}
use Rattle.sil_cfg.specs.declared.item.Item.TheVariants as item
use Rattle.sil_cfg_items.specs.Items.{item_defined}
use Rattle.ownership_kinds_chains.specs.declared.ownership_chains.facts.Facts.{Facts}
use Rattle.sil_types_declarations.specs.TypeDefinitions.Declarations.{Declarations, declarations_of}
use Rattle.holder_model_values.specs.RunValues.Places.{Place}
use Rattle.sil_verifier_runs.specs.sil_verifier_trails.AcceptedTrails.inner.Defined.{makes}
use Rattle.sil_verifier_runs.proofs.sil_verifier_trails.AcceptedTrails.Tests.{each_among}
use Rattle.sil_verifier_runs.specs.holder_model.Data.{Datum}
use Rattle.sil_verifier_runs.specs.holder_model.Effects.{unchanged}
use Rattle.sil_verifier_runs.specs.holder_model.Frames.{Entry, Frame, results_put}
use Rattle.sil_verifier_runs.specs.holder_model.HolderStates.{HolderNext, HolderState}
use Rattle.sil_verifier_runs.specs.holder_model.ModuleFacts.{facts_of, facts_told}
use Rattle.sil_verifier_runs.specs.holder_model.ModuleShapes.{ModuleShapes, shapes_of}
use Rattle.sil_verifier_runs.specs.holder_model.Standing.{behind}
use Rattle.sil_verifier_runs.specs.holder_model.States.{Goes, Runs, Task}
use Rattle.sil_verifier_runs.specs.holder_model.LoweredRun.LowFrames.{LowFrame, put_all}
use Rattle.sil_verifier_runs.specs.holder_model.LoweredRun.LowStepParts.{LowNext, LowState, numbers_for}
use Rattle.sil_verifier_runs.specs.holder_model.LoweredRun.Stored.{new_numbers}
use Rattle.numbered_form.proofs.Lists.{each_weaker}
use Rattle.ownership_lowering_laws.specs.ownership_lowering_model.LoweredModules.{lowered, lowered_body}
use Rattle.sil_verifier_runs.specs.holder_model_laws.HolderLaws.inner.Steps.Ways as holder
use Rattle.sil_verifier_runs.specs.holder_model_laws.LoweredSteps.inner.LowWays as ways
use Rattle.ownership_lowering_runs.specs.StoredRuns.inner.Along.{AreTotalsFor, IsNextAlong, IsNoFault}
use Rattle.ownership_lowering_runs.specs.StoredRuns.inner.Frames.{AreGivenPartsFull, AreTasksFor, AreValuesFor, HasFullParts, IsFrameAt, IsFrameFor, IsTaskFor}
use Rattle.ownership_lowering_runs.specs.StoredRuns.inner.Lowering.{IsOwnName, LowersSo}
use Rattle.ownership_lowering_runs.specs.StoredRuns.inner.Memories.{IsMemoryFor, IsObjectFor}
use Rattle.ownership_lowering_runs.specs.StoredRuns.inner.Names.{IsCurrent, IsOld, lowered_number}
use Rattle.ownership_lowering_runs.specs.StoredRuns.inner.Points.{lowered_point}
use Rattle.ownership_lowering_runs.proofs.StoredRuns.PutValues.{put_other}
use Rattle.ownership_lowering_runs.proofs.StoredRuns.Reading.{Like, behind_current, like_itself}
use Rattle.ownership_lowering_runs.proofs.StoredRuns.ValuesFor.{ArePut, like_same, ok-ok, results_shown}

module _ (m : Module) (bound : ℕ) (s : HolderState) (l : LowState) (totals : AreTotalsFor s l) (memory : IsMemoryFor s.memory l.memory)
    (size : length l.numbers ≡ length s.memory.objects)
    (frame : Frame) (rest : List (Task Frame)) (f : Function) (lowers : LowersSo m frame.function f) (there : slice_get m.functions frame.function.0 ≡ Some f)
    (low : LowFrame) (lrest : List (Task LowFrame)) (frames : IsFrameAt (declarations_of m) f frame low) (rest_for : AreTasksFor m rest lrest)
    (full : Each (HasFullParts m l.memory) (Runs low ∷ lrest)) where
  abbrev d : Declarations
  d = declarations_of m

  abbrev low_told : ModuleShapes
  low_told = shapes_of (lowered m)

  abbrev lf : Function
  lf = lowered_body d f

  abbrev number : ValueId → ValueId
  number v = lowered_number d f v

  abbrev facts : ValueId → Option Facts
  facts v = facts_told (facts_of m) frame.function v

  -- ---- values that are put

  pub record PutsSo (i li : Item) (ys : List Datum) (entries : List Entry) : Type 0 where
    pub values' : List (Option Datum)
    pub put : put_all (item_defined lf li) ys low.values ≡ Some values'
    pub as_many : length values' ≡ length low.values
    pub shown : AreValuesFor d f (i ∷ frame.trail) entries values'
    pub parts : AreGivenPartsFull d f values' l.memory

  pub parts_full : AreGivenPartsFull d f low.values l.memory
  parts_full = full.0 f (ap (λ (g : FuncId). slice_get m.functions g.0) frames.function ∙ there)

  -- arguments have other numbers than what a later item makes
  module _ (i : Item) (later : i ≡ item.Entry → ⊥) (own : Each (IsOwnName f) (item_defined f i)) where
    pub other_numbers : (v : ValueId) → makes f v item.Entry ≡ true → (rs : List ValueId) → Each (IsOwnName f) rs → Each (λ r. makes f r i ≡ true) rs
        → Each (λ r. ((number v).0 == r.0) ≡ false) (map number rs)
    other_numbers v given [] owns made = tt
    other_numbers v given (r ∷ rs) owns made = (at (cases_Bool ((number v).0 == (number r).0)), other_numbers v given rs owns.1 made.1)
      where
        own_v : IsOwnName f v
        own_v = lowers.given v given

        at : (((number v).0 == (number r).0) ≡ true) ⊎ (((number v).0 == (number r).0) ≡ false) → ((number v).0 == (number r).0) ≡ false
        at (inr other) = other
        at (inl same) =
            let e : number v ≡ number r = ap (λ n. record { 0 = n }) (eqb-true (number v).0 (number r).0 same) in
            let is : r ≡ v = sym (sym own_v.1 ∙ lowers.named.apart v r own_v.0 owns.0.0 e ∙ owns.0.1) in
            absurd (later (lowers.given_once v i given (subst (λ u. makes f u i ≡ true) is made.0)))

    pub all_made : Each (λ r. makes f r i ≡ true) (item_defined f i)
    all_made = each_among (λ (r : ValueId). r) (λ r. makes f r i ≡ true) (item_defined f i) (λ r h. h)

    pub puts_own : (li : Item) → item_defined lf li ≡ map number (item_defined f i) → (xs : List Datum) (entries : List Entry)
        → results_put facts (item_defined f i) xs frame.entries ≡ Ok entries → PutsSo i li xs entries
    puts_own li defines xs entries put =
        record {
          values' = putting.values';
          put = ap (λ vs. put_all vs xs low.values) defines ∙ putting.is;
          as_many = putting.size;
          shown = behind_current d f lowers.named frame.trail i (item_defined f i) refl own entries putting.values' putting.shown;
          parts = λ v p given at part.
              parts_full v p given
              (sym (put_other (map number (item_defined f i)) xs low.values putting.values' (number v) putting.is
              (other_numbers v given.made (item_defined f i) own all_made)) ∙ at) part;
        }
      where
        putting : ArePut number (Like d f lowers.named) facts (item_defined f i) xs entries low.values (λ v. IsOld f v × IsCurrent f frame.trail v)
        putting =
            results_shown number (Like d f lowers.named) facts (item_defined f i) xs xs
            (like_same number (Like d f lowers.named) (like_itself d f lowers.named) (item_defined f i) xs) frame.entries entries low.values
            (λ v. IsOld f v × IsCurrent f frame.trail v)
            (each_weaker (IsOwnName f) (λ r. (number r).0 < length low.values) (λ r o. subst (λ n. (number r).0 < n) (sym frames.size) (lowers.named.few r o.0))
            (item_defined f i) own) put frames.values

  -- nothing is put
  pub puts_none : (i li : Item) → item_defined lf li ≡ [] → (entries : List Entry) → AreValuesFor d f (i ∷ frame.trail) entries low.values → PutsSo i li [] entries
  puts_none i li none entries shown =
      record { values' = low.values; put = ap (λ vs. put_all vs [] low.values) none; as_many = refl; shown = shown; parts = parts_full }

  -- ---- the frame goes on

  numbers_stay : numbers_for l.memory l.numbers ≡ l.numbers
  numbers_stay =
      ap (λ b. cond b l.numbers (l.numbers ++ new_numbers ∷ []))
      (eq-eqb (length l.numbers) (length l.memory.objects) (size ∙ sym (AllZip-long IsObjectFor s.memory.objects l.memory.objects memory.objects)))

  pub record LowBehind (li : Item) (ys : List Datum) (next : HolderNext) : Type 0 where
    pub low_next : LowNext
    pub way : ways.GoesBehind (lowered m) low_told bound l lrest low lf li (record (unchanged l.memory) { results = ys }) low_next
    pub for : IsNextAlong m l.numbers next low_next

  module _ (i li : Item) (same : behind lf li ≡ lowered_point d f (behind f i)) (xs ys : List Datum)
      (puts : (entries : List Entry) → results_put facts (item_defined f i) xs frame.entries ≡ Ok entries → PutsSo i li ys entries) where
    low_goes : (slots : List Place) (entries : List Entry) → frame.slots ≡ slots → (put : PutsSo i li ys entries)
        → LowBehind li ys (Goes (holder.moved m (facts_of m) bound s rest frame i (record (unchanged s.memory) { results = xs }) slots entries))
    low_goes slots entries slots_are put = record {
      low_next = Goes (ways.moved (lowered m) low_told bound l lrest low lf li (record (unchanged l.memory) { results = ys }) low.slots put.values');
      way = ways.GoesBehind.goes low.slots put.values' refl put.put refl;
      for = IsNextAlong.goes _ _
          (record {
            tasks = (IsTaskFor.runs _ _ frame_for, rest_for);
            memory = memory;
            parts = (full_for, full.1);
            totals = record { events = totals.events; turns = totals.turns; retains = totals.retains ∙ no_more s.retains; releases = totals.releases };
          })
          numbers_stay;
    }
      where
        no_more : (n : ℕ) → n ≡ n + 0
        no_more n = omega arith

        frame_for : IsFrameFor m (record frame { trail = i ∷ frame.trail; entries = entries; slots = slots; lent = [] })
            (record low { at = behind lf li; values = put.values'; slots = low.slots })
        frame_for = record {
          f = f;
          there = there;
          frames = record { function = frames.function; at = same; slots = frames.slots ∙ slots_are; size = put.as_many ∙ frames.size; values = put.shown };
        }

        full_for : HasFullParts m l.memory (Runs (record low { at = behind lf li; values = put.values'; slots = low.slots }))
        full_for g is =
            let one : f ≡ g = same_Some f g (sym (ap (λ (h : FuncId). slice_get m.functions h.0) frames.function ∙ there) ∙ is) in
            subst (λ h. AreGivenPartsFull d h put.values' l.memory) one put.parts

    pub goes_along : (next : HolderNext) → holder.GoesBehind m (facts_of m) bound s rest frame f i (record (unchanged s.memory) { results = xs }) next → IsNoFault next
        → LowBehind li ys next
    goes_along _ (holder.GoesBehind.goes slots entries slots_left put) none = low_goes slots entries (ok-ok frame.slots slots slots_left) (puts entries put)
    goes_along _ (holder.GoesBehind.wrong_slot x e) none = absurd (none x s refl)
    goes_along _ (holder.GoesBehind.wrong_result slots x e g) none = absurd (none x s refl)
