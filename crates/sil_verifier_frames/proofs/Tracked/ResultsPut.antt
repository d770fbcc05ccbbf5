-- The results of the next item of a frame are put: none overwrites a held entry, and behind them the entries go along with the longer trail.
use Rattle.std.proofs.Common.{◌≡◌, ℕ, ◌+◌, ◌<◌, arith, append_assoc, List, [], ◌∷◌, ◌++◌, length, length-append, set, refl, sym, ap, ◌∙◌, subst, Bool, true, false, cond, Option, Some, Ok, Err, eq-eqb}
use Rattle.std.specs.Prelude.{◌&&◌, ◌||◌, ◌==◌, option_map, slice_get}
use Rattle.std.specs.List.{list_any}
use Rattle.std.specs.declared.result.Result.{Result}
use Rattle.std.proofs.lemmas.Bool.{cases_Bool, eqb-true, false≢true, or_cases, true≢false}
use Rattle.sil_cfg_items.specs.Items.{item_defined}
use Rattle.holder_model_laws.specs.ownership_kinds_chains.OwnershipChains.Facts.{has, is_owned, known_or}
use Rattle.holder_model_laws.specs.ownership_kinds_chains.declared.ownership_chains.facts.Facts.{Facts}
use Rattle.sil_ast.specs.declared.function.Function.{Function}
use Rattle.sil_ast.specs.declared.module.Module.{Module}
use Rattle.sil_ast.specs.declared.place.ValueId.{ValueId}
use Rattle.sil_cfg.specs.declared.item.Item.{Item}
use Rattle.sil_types_declarations.specs.TypeDefinitions.Declarations.{Declarations, declarations_of}
use Rattle.sil_types_declarations.specs.declared.type_definitions.kind.Kind.{Kind}
use Rattle.sil_types_declarations.specs.declared.type_definitions.kind.Kind.TheVariants as kind
use Rattle.holder_model_values.specs.RunValues.Places.{Home, Inside, OnStack}
use Rattle.holder_model_values.specs.RunValues.Values.{references_of}
use Rattle.sil_verifier_trails.specs.sil_verifier_values.inner.Known.{IsAcceptedBody, kind_at}
use Rattle.holder_model_laws.specs.holder_model.RunTyping.CallForms.{IsOf}
use Rattle.sil_verifier_trails.proofs.sil_verifier_values.Made.{distinct, items_of}
use Rattle.sil_verifier_trails.proofs.holder_model_typing.RunTypingLaws.Found.{each_at}
use Rattle.sil_verifier_trails.proofs.holder_model_typing.RunTypingLaws.ListFacts.{get_next}
use Rattle.sil_verifier_trails.specs.AcceptedTrails.inner.Defined.{makes}
use Rattle.sil_verifier_trails.specs.AcceptedTrails.inner.Passing.{is_begin, left_by}
use Rattle.sil_verifier_trails.specs.RunTrails.inner.RunTrails.{IsTurnedTrail}
use Rattle.holder_model_laws.specs.holder_model.Calling.{value_count}
use Rattle.holder_model_laws.specs.holder_model.Data.{AddressOf, Datum, FunctionOf, ValueOf}
use Rattle.holder_model_laws.specs.holder_model.Faults.{HolderFault, OverwritesHeld, WrongShape}
use Rattle.holder_model_laws.specs.holder_model.Frames.{Entry, Gone, Held, Lent, Plain, entry_at, has_any}
use Rattle.holder_model_laws.specs.holder_model.Frames.{is_held, made_entry, plain_address, plain_entry, put_entry, results_put, with_ok}
use Rattle.holder_model_laws.specs.ownership_kinds_origins.Facts.{facts_in}
use Rattle.sil_verifier_trails.specs.HeldEntries.inner.Entries.{AreMade, Begin, HasEach, MayBegin}
use Rattle.sil_verifier_trails.specs.HeldEntries.inner.Tracked.{AreTracked, AreTrackedLeft}
use Rattle.sil_verifier_trails.proofs.HeldEntries.EntriesEnded.{entry_set_other, other_way}
use Rattle.sil_verifier_trails.proofs.HeldEntries.EntriesPut.{put_where_they_may}
use Rattle.sil_verifier_trails.proofs.HeldEntries.TrackedOn.{tracked_behind}
use Rattle.sil_verifier_trails.proofs.AcceptedTrails.BasesOpen.{owned_begins}
use Rattle.sil_verifier_trails.proofs.AcceptedTrails.LivesPassed.{lives_passed}
use Rattle.sil_verifier_trails.proofs.AcceptedTrails.Tests.{either, first_of, or_first, or_second, same_value}
use Rattle.holder_model_laws.proofs.HolderLaws.Steps.WhichFaults.{ErrsBy, err_is, made_errs}
use Rattle.sil_verifier_frames.specs.inner.Tracked.TrackedStates.{IsThere, OthersAreThere}
use Rattle.sil_verifier_frames.proofs.Tracked.HowValuesEnd.{accepted_in, is_owned_in}

-- ---- entries that are made

address_there : (home : Home) (x : Datum) → IsThere (plain_address home x)
address_there OnStack x = tt
address_there (Inside o) x = tt

plain_there : (x : Datum) (e : Entry) → plain_entry x ≡ Ok e → IsThere e
plain_there (ValueOf x) e h = by (has_any (references_of x)) h
  where
    by : (b : Bool) → cond b (Err WrongShape) (Ok (Plain (ValueOf x))) ≡ Ok e → IsThere e
    by true h = absurd (cc)
    by false h = let same : Plain (ValueOf x) ≡ e = cc in subst IsThere same tt
plain_there (AddressOf p) e h = let same : plain_address p.home (AddressOf p) ≡ e = cc in subst IsThere same (address_there p.home (AddressOf p))
plain_there (FunctionOf g) e h = let same : Plain (FunctionOf g) ≡ e = cc in subst IsThere same tt

made_there : (k : Kind) (x : Datum) (e : Entry) → made_entry k x ≡ Ok e → IsThere e
made_there kind.Owned x e h = let same : Held x ≡ e = cc in subst IsThere same tt
made_there kind.Guaranteed x e h = let same : Lent x ≡ e = cc in subst IsThere same tt
made_there kind.Plain x e h = plain_there x e h

abbrev ok_or : {A : Type 0} → A → Result A HolderFault → A
ok_or x (Ok y) = y
ok_or x (Err z) = x

module _ (facts : ValueId → Option Facts) where
  -- what was put was made
  made_of_put : (vs : List ValueId) (xs : List Datum) (entries behind : List Entry) → results_put facts vs xs entries ≡ Ok behind → (es : List Entry) × AreMade facts vs xs es
  made_of_put [] [] entries behind e = ([], tt)
  made_of_put [] (x ∷ xs) entries behind e = absurd (cc)
  made_of_put (v ∷ vs) [] entries behind e = absurd (cc)
  made_of_put (v ∷ vs) (x ∷ xs) entries behind e = at (made_entry (known_or facts v).kind x) refl e (λ more put. made_of_put vs xs more behind put)
    where
      by : (z : Entry) → made_entry (known_or facts v).kind x ≡ Ok z → (b : Bool)
          → with_ok (results_put facts vs xs) (cond b (Err OverwritesHeld) (Ok (set entries v.0 z))) ≡ Ok behind
          → ((more : List Entry) → results_put facts vs xs more ≡ Ok behind → (es : List Entry) × AreMade facts vs xs es)
          → (es : List Entry) × AreMade facts (v ∷ vs) (x ∷ xs) es
      by z is true e later = absurd (cc)
      by z is false e later = let r = later (set entries v.0 z) e in (z ∷ r.0, (is, r.1))

      at : (r : Result Entry HolderFault) → made_entry (known_or facts v).kind x ≡ r
          → with_ok (results_put facts vs xs) (with_ok (put_entry entries v) r) ≡ Ok behind
          → ((more : List Entry) → results_put facts vs xs more ≡ Ok behind → (es : List Entry) × AreMade facts vs xs es)
          → (es : List Entry) × AreMade facts (v ∷ vs) (x ∷ xs) es
      at (Ok z) is e later = by z is (is_held (entry_at entries v)) e later
      at (Err y) is e later = absurd (cc)

  -- each entry that was made is there
  each_there : (behind : List Entry) (v : ValueId) (vs : List ValueId) (xs : List Datum) (es : List Entry) → AreMade facts vs xs es → HasEach behind vs es
      → has vs v.0 ≡ true → IsThere (entry_at behind v)
  each_there behind v [] xs es made each there = absurd (false≢true there)
  each_there behind v (w ∷ vs) [] es made each there = absurd made
  each_there behind v (w ∷ vs) (x ∷ xs) [] made each there = absurd made
  each_there behind v (w ∷ vs) (x ∷ xs) (e ∷ es) made each there =
      either (λ same. subst (λ (u : ValueId). IsThere (entry_at behind u)) (same_value w v (eqb-true w.0 v.0 same)) (subst IsThere (sym each.0) (made_there (known_or facts w).kind x e made.0)))
      (λ later. each_there behind v vs xs es made.1 each.1 later) (or_cases (w.0 == v.0) (has vs v.0) there)

  -- ---- where none is held

  -- none of the values is held, nor the same as one before it
  abbrev NoneHeld : List ValueId → List Entry → Type 0
  NoneHeld vs entries = (front rest : List ValueId) (v : ValueId) → vs ≡ front ++ v ∷ rest → (is_held (entry_at entries v) ≡ false) × (has front v.0 ≡ false)

  later_none : (v : ValueId) (vs : List ValueId) (entries : List Entry) (e : Entry) → NoneHeld (v ∷ vs) entries → NoneHeld vs (set entries v.0 e)
  later_none v vs entries e none front rest w parts =
      let h = none (v ∷ front) rest w (ap (λ l. v ∷ l) parts) in (
        ap is_held (entry_set_other entries v w e (other_way v.0 w.0 (or_first (v.0 == w.0) (has front w.0) h.1))) ∙ h.0,
        or_second (v.0 == w.0) (has front w.0) h.1,
      )

  shape_alone : (vs : List ValueId) (xs : List Datum) (entries : List Entry) → NoneHeld vs entries → ErrsBy (λ y. y ≡ WrongShape) (results_put facts vs xs entries)
  shape_alone [] [] entries none = tt
  shape_alone [] (x ∷ xs) entries none = refl
  shape_alone (v ∷ vs) [] entries none = refl
  shape_alone (v ∷ vs) (x ∷ xs) entries none =
      at (made_entry (known_or facts v).kind x) (made_errs (known_or facts v).kind x)
      (λ e. shape_alone vs xs (set entries v.0 e) (later_none v vs entries e none))
    where
      at : (r : Result Entry HolderFault) → ErrsBy (λ y. y ≡ WrongShape) r
          → ((e : Entry) → ErrsBy (λ y. y ≡ WrongShape) (results_put facts vs xs (set entries v.0 e)))
          → ErrsBy (λ y. y ≡ WrongShape) (with_ok (results_put facts vs xs) (with_ok (put_entry entries v) r))
      at (Ok e) h later =
          subst (λ b. ErrsBy (λ y. y ≡ WrongShape) (with_ok (results_put facts vs xs) (cond b (Err OverwritesHeld) (Ok (set entries v.0 e)))))
          (sym (none [] vs v refl).0) (later e)
      at (Err y) h later = h

-- ---- behind an item

-- the entries behind the ends of the item: they go along with the trail, one for each value, and those of Owned values alone hold
pub record AreLeft (d : Declarations) (f : Function) (t : List Item) (i : Item) (left : List Entry) : Type 0 where
  pub tracked : AreTrackedLeft d f t i left
  pub others : OthersAreThere d f t left
  pub size : length left ≡ value_count f
  pub held : (v : ValueId) → is_held (entry_at left v) ≡ true → is_owned (kind_at d f v) ≡ true

module _ (m : Module) (n : ℕ) (f : Function) (a : IsAcceptedBody m n f) (t : List Item) (i : Item) (turned : IsTurnedTrail f (i ∷ t)) (left : List Entry)
    (are : AreLeft (declarations_of m) f t i left) where
  abbrev d : Declarations
  d = declarations_of m

  abbrev facts : ValueId → Option Facts
  facts = facts_in d f

  -- an Owned value isn't held where it begins
  not_held : (front rest : List ValueId) (v : ValueId) → item_defined f i ≡ front ++ v ∷ rest → is_held (entry_at left v) ≡ false
  not_held front rest v parts = either (λ held. absurd (at held)) (λ none. none) (cases_Bool (is_held (entry_at left v)))
    where
      at : is_held (entry_at left v) ≡ true → ⊥
      at held =
          let owned = is_owned_in m n f a v (are.held v held) in
          let pass = lives_passed d f (accepted_in m n f a) v owned t i turned in
          let begins : is_begin facts v v ≡ true = ap (λ b. b && (v.0 == v.0)) (owned_begins facts v owned.owned) ∙ eq-eqb v.0 v.0 refl in
          let off = or_second (list_any (is_begin facts v) front) (left_by facts v f i pass.on) (pass.found.begun front rest v parts begins) in
          let gone : entry_at left v ≡ Gone = are.tracked.owned v owned false (ap (option_map (left_by facts v f i)) pass.was ∙ ap Some off) in
          true≢false (sym held ∙ ap is_held gone)

  at_place : (front rest : List ValueId) (v : ValueId) → item_defined f i ≡ front ++ v ∷ rest → slice_get (item_defined f i) (length front) ≡ Some v
  at_place front rest v parts = ap (λ vs. slice_get vs (length front)) parts ∙ get_next front v rest

  once : (front rest : List ValueId) (v : ValueId) → item_defined f i ≡ front ++ v ∷ rest → has front v.0 ≡ false
  once front rest v parts = either (λ again. absurd (at again)) (λ none. none) (cases_Bool (has front v.0))
    where
      at : has front v.0 ≡ true → ⊥
      at again =
          let r = first_of (λ (w : ValueId). w.0 == v.0) front again in
          let same : r.here ≡ v = same_value r.here v (eqb-true r.here.0 v.0 r.passes) in
          let earlier : item_defined f i ≡ r.front ++ v ∷ (r.rest ++ v ∷ rest) =
          parts ∙ ap (λ vs. vs ++ v ∷ rest) r.parts ∙ append_assoc r.front (r.here ∷ r.rest) (v ∷ rest) ∙ ap (λ (w : ValueId). r.front ++ w ∷ (r.rest ++ v ∷ rest)) same in
          let level : length r.front ≡ length front =
          distinct m n f a i (length r.front) (length front) v (at_place r.front (r.rest ++ v ∷ rest) v earlier) (at_place front rest v parts) in
          let long : length front ≡ length r.front + length (r.here ∷ r.rest) = ap length r.parts ∙ length-append r.front (r.here ∷ r.rest) in
          omega arith

  none_held : NoneHeld facts (item_defined f i) left
  none_held front rest v parts = (not_held front rest v parts, once front rest v parts)

  may_begin : MayBegin facts (item_defined f i) left
  may_begin front rest v parts = (
    not_held front rest v parts,
    once front rest v parts,
    subst (λ k. v.0 < k) (sym are.size) (each_at (IsOf f) (item_defined f i) (length front) v (items_of m n f a i).defined (at_place front rest v parts)),
  )

  -- a value isn't of its kind, or there are more or fewer: no other fault comes
  pub results_fault : (xs : List Datum) (x : HolderFault) → results_put facts (item_defined f i) xs left ≡ Err x → x ≡ WrongShape
  results_fault xs x e = err_is (λ y. y ≡ WrongShape) (results_put facts (item_defined f i) xs left) x (shape_alone facts (item_defined f i) xs left none_held) e

  module _ (xs : List Datum) (entries : List Entry) (e : results_put facts (item_defined f i) xs left ≡ Ok entries) where
    made : (es : List Entry) × AreMade facts (item_defined f i) xs es
    made = made_of_put facts (item_defined f i) xs left entries e

    put : Begin facts (item_defined f i) xs made.0 left
    put = put_where_they_may facts (item_defined f i) xs made.0 left made.1 may_begin

    same : put.behind ≡ entries
    same = ap (ok_or left) (sym put.is_behind ∙ e)

    pub tracked_on : AreTracked d f (i ∷ t) entries
    tracked_on = subst (AreTracked d f (i ∷ t)) same (tracked_behind d f (accepted_in m n f a) t i turned xs made.0 left are.tracked made.1 put)

    pub others_on : OthersAreThere d f (i ∷ t) entries
    others_on v never defined = subst (λ es. IsThere (entry_at es v)) same (at (has (item_defined f i) v.0) refl)
      where
        at : (b : Bool) → has (item_defined f i) v.0 ≡ b → IsThere (entry_at put.behind v)
        at true there = each_there facts put.behind v (item_defined f i) xs made.0 made.1 put.made there
        at false none =
            subst IsThere (sym (put.others v none))
            (are.others v never (sym (ap (λ b. b || list_any (makes f v) t) none) ∙ defined))
