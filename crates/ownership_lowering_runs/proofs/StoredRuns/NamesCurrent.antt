-- What the next item takes is current: by the law of splicing, along the names that lead from a value to the one that it stands for.
use Rattle.std.proofs.Common.{◌≡◌, ℕ, zero, suc, List, [], ◌∷◌, ◌++◌, length, reverse, refl, sym, ap, ap₂, ◌∙◌, subst, Bool, true, false, not, ◌&&◌, ◌||◌, Option, Some, None, eq-eqb}
use Rattle.std.specs.List.{list_any}
use Rattle.std.proofs.lemmas.Bool.{eqb-true, false≢true, or_cases}
use Rattle.std.proofs.lemmas.List.{reverse-reverse}
use Rattle.sil_cfg_items.specs.Items.{item_taken}
use Rattle.sil_cfg_items.specs.declared.taken.Taken.{Taken}
use Rattle.numbered_form.specs.Lists.{Each}
use Rattle.sil_ast.specs.declared.function.Function.{Function}
use Rattle.sil_ast.specs.declared.place.EdgeId.{EdgeId}
use Rattle.sil_ast.specs.declared.place.ValueId.{ValueId}
use Rattle.sil_cfg.specs.Items.{IsItem, flow_of}
use Rattle.sil_cfg.specs.Walk.{IsTrail}
use Rattle.sil_cfg.specs.declared.item.Item.{Item}
use Rattle.sil_cfg.specs.declared.item.Item.TheVariants as items
use Rattle.sil_cfg.specs.inner.Splice.{Precedes, Stop, is_at, item, same_item}
use Rattle.sil_cfg.proofs.Places.{same_item-true}
use Rattle.sil_types_declarations.specs.TypeDefinitions.Declarations.{Declarations}
use Rattle.ownership_kinds_chains.specs.declared.ownership_chains.definition.Definition.{Definition}
use Rattle.numbered_form.proofs.Lists.{each_both}
use Rattle.sil_verifier_runs.specs.ownership_kinds_origins.Renamings.{renamings_of}
use Rattle.ownership_lowering_laws.specs.ownership_lowering_model.Names.{renamed_from, stands_within, unless_renamed}
use Rattle.sil_verifier_runs.specs.sil_verifier_trails.RunTrails.inner.RunTrails.{IsTurnedTrail}
use Rattle.sil_verifier_runs.specs.sil_verifier_trails.RunTrails.inner.Since.{is_none_since}
use Rattle.sil_verifier_runs.proofs.sil_verifier_trails.RunTrails.SplicedRuns.{are_spliced}
use Rattle.sil_verifier_runs.proofs.sil_verifier_trails.RunTrails.TurnedTrails.{are_of_items, turned_item, turned_older}
use Rattle.sil_verifier_runs.specs.sil_verifier_trails.AcceptedTrails.inner.Accepted.{IsAcceptedIn}
use Rattle.sil_verifier_runs.specs.sil_verifier_trails.AcceptedTrails.inner.Bases.{MakesAtStops}
use Rattle.sil_verifier_runs.specs.sil_verifier_trails.AcceptedTrails.inner.Defined.{IsDefinedOn, IsTakenFrom, makes}
use Rattle.sil_verifier_runs.proofs.sil_verifier_trails.AcceptedTrails.OperandsDefined.{operands_defined}
use Rattle.sil_verifier_runs.proofs.sil_verifier_trails.AcceptedTrails.Tests.{any_alike, any_reversed, each_among, each_weaker, either, or_right, picked, same_value}
use Rattle.ownership_lowering_runs.specs.StoredRuns.inner.Current.{AreAcceptedCurrent, TakesNamed, is_of}
use Rattle.ownership_lowering_runs.specs.StoredRuns.inner.Names.{IsTakenCurrent}

-- what passes has come since itself
since_itself : (p : Item → Bool) (t : List Item) → list_any p t ≡ true → is_none_since p p t ≡ true
since_itself p [] h = h
since_itself p (i ∷ t) h = at (p i) (is_none_since p p t) (since_itself p t) h
  where
    at : (here : Bool) (none : Bool) → (list_any p t ≡ true → none ≡ true) → (here || list_any p t) ≡ true → (here || (not here && none)) ≡ true
    at true none more e = refl
    at false none more e = more e

since_alike : (p q r s : Item → Bool) (t : List Item) → Each (λ i. p i ≡ r i) t → Each (λ i. q i ≡ s i) t → is_none_since p q t ≡ is_none_since r s t
since_alike p q r s [] h k = refl
since_alike p q r s (i ∷ t) h k = ap₂ (λ a b. a || b) k.0 (ap₂ (λ a b. not a && b) h.0 (since_alike p q r s t h.1 k.1))

itself : (i : Item) → same_item i i ≡ true
itself items.Entry = refl
itself (items.Inst p) = ap₂ (λ a b. a && b) (eq-eqb p.block.0 p.block.0 refl) (eq-eqb p.index p.index refl)
itself (items.Edge e) = ap₂ (λ a b. a && b) (eq-eqb e.block.0 e.block.0 refl) (eq-eqb e.index e.index refl)
itself (items.Exit p) = ap₂ (λ a b. a && b) (eq-eqb p.block.0 p.block.0 refl) (eq-eqb p.index p.index refl)

module _ (d : Declarations) (f : Function) (accepted : IsAcceptedIn d f) (takes : TakesNamed f) (stops : MakesAtStops f) where
  abbrev names : List Definition
  names = renamings_of f

  taken_defined : (t : List Item) (i : Item) → IsTurnedTrail f (i ∷ t) → (w : ValueId) → list_any (is_of w) (item_taken f i) ≡ true → IsDefinedOn f t w
  taken_defined t i h w among =
      let x = picked (is_of w) (IsTakenFrom f t) (item_taken f i) (operands_defined d f accepted t i h) among in
      subst (IsDefinedOn f t) (same_value x.0.value w (eqb-true x.0.value.0 w.0 x.1)) x.2

  -- what a defined value is another name for is defined
  named_defined : (v w : ValueId) → renamed_from names v ≡ Some w → (t : List Item) → IsTurnedTrail f t → IsDefinedOn f t v → IsDefinedOn f t w
  named_defined v w e [] h made = absurd (false≢true made)
  named_defined v w e (i ∷ t) h made =
      either
      (λ here. or_right (makes f w i) (list_any (makes f w) t) (taken_defined t i h w (takes i v w (turned_item f i t h) here e)))
      (λ before. or_right (makes f w i) (list_any (makes f w) t) (named_defined v w e t (turned_older f i t h) before))
      (or_cases (makes f v i) (list_any (makes f v) t) made)

  -- and so is what it stands for, through so many names at most
  stands_defined : (n : ℕ) (v : ValueId) (t : List Item) → IsTurnedTrail f t → IsDefinedOn f t v → IsDefinedOn f t (stands_within names n v)
  stands_defined zero v t h made = made
  stands_defined (suc n) v t h made = at (renamed_from names v) refl (stands_defined n)
    where
      at : (o : Option ValueId) → renamed_from names v ≡ o
          → ((w : ValueId) (u : List Item) → IsTurnedTrail f u → IsDefinedOn f u w → IsDefinedOn f u (stands_within names n w))
          → IsDefinedOn f t (unless_renamed (stands_within names n) v o)
      at None e more = made
      at (Some w) e more = more w t h (named_defined v w e t h made)

  -- a trail, the oldest item first, is one turned round
  turned : (w : List EdgeId) (before : List Item) (i : Item) → IsTrail (flow_of f) w (before ++ i ∷ []) → IsTurnedTrail f (i ∷ reverse before)
  turned w before i trail = (w, subst (λ v. IsTrail (flow_of f) w (v ++ i ∷ [])) (sym (reverse-reverse before)) trail)

  abbrev IsStopOf : ValueId → Stop → Type 0
  IsStopOf v s = (i : Item) → IsItem f i → makes f v i ≡ is_at (flow_of f) s i

  made_at : (v : ValueId) (s : Stop) → IsStopOf v s → (t : List Item) → IsTurnedTrail f t → Each (λ i. makes f v i ≡ is_at (flow_of f) s i) t
  made_at v s stop t h = each_weaker (IsItem f) (λ i. makes f v i ≡ is_at (flow_of f) s i) stop t (are_of_items f t h)

  -- what is defined on the items before was made at its stop
  stops_before : (v : ValueId) (s : Stop) → IsStopOf v s → (before : List Item) → IsTurnedTrail f (reverse before) → IsDefinedOn f (reverse before) v
      → list_any (is_at (flow_of f) s) before ≡ true
  stops_before v s stop before h made =
      sym (any_reversed (is_at (flow_of f) s) before)
      ∙ sym (any_alike (makes f v) (is_at (flow_of f) s) (reverse before) (made_at v s stop (reverse before) h)) ∙ made

  -- what is named comes before its other name
  named_precedes : (n : ℕ) (v w : ValueId) → renamed_from names v ≡ Some w → (r s : Stop) → IsStopOf (stands_within names n w) r → IsStopOf v s
      → Precedes (flow_of f) r s
  named_precedes n v w e r s at_named at_v walk before i trail here =
      let h = turned walk before i trail in
      let is = turned_item f i (reverse before) h in
      let older = turned_older f i (reverse before) h in
      stops_before (stands_within names n w) r at_named before older
      (stands_defined n w (reverse before) older (taken_defined (reverse before) i h w (takes i v w is (at_v i is ∙ here) e)))

  taken_precedes : (v : ValueId) (s : Stop) → IsStopOf v s → (i : Item) → list_any (is_of v) (item_taken f i) ≡ true → Precedes (flow_of f) s (item i)
  taken_precedes v s at_v i among walk before j trail here =
      let h = turned walk before j trail in
      let older = turned_older f j (reverse before) h in
      let same : j ≡ i = same_item-true j i here in
      stops_before v s at_v before older (taken_defined (reverse before) j h v (ap (λ k. list_any (is_of v) (item_taken f k)) same ∙ among))

  -- the stop of a value that an item of the trail made
  stop_of : (v : ValueId) (t : List Item) → IsTurnedTrail f t → IsDefinedOn f t v → (s : Stop) × IsStopOf v s
  stop_of v t h made = let i = picked (makes f v) (IsItem f) t (are_of_items f t h) made in stops v i.0 i.2 i.1

  module _ (t : List Item) (i : Item) (h : IsTurnedTrail f (i ∷ t)) (v : ValueId) (made : IsDefinedOn f t v) (among : list_any (is_of v) (item_taken f i) ≡ true) where
    older : IsTurnedTrail f t
    older = turned_older f i t h

    spliced : (n : ℕ) (w : ValueId) → renamed_from names v ≡ Some w → is_none_since (makes f (stands_within names n w)) (makes f v) t ≡ true
    spliced n w e =
        let r = stop_of (stands_within names n w) t older (stands_defined n w t older (named_defined v w e t older made)) in
        let s = stop_of v t older made in
        since_alike (makes f (stands_within names n w)) (makes f v) (is_at (flow_of f) r.0) (is_at (flow_of f) s.0) t
        (made_at (stands_within names n w) r.0 r.1 t older) (made_at v s.0 s.1 t older)
        ∙ are_spliced f r.0 s.0 (item i) (named_precedes n v w e r.0 s.0 r.1 s.1) (taken_precedes v s.0 s.1 i among) t i h (itself i)

    current : (n : ℕ) → is_none_since (makes f (stands_within names n v)) (makes f v) t ≡ true
    current zero = since_itself (makes f v) t made
    current (suc n) = at (renamed_from names v) refl
      where
        at : (o : Option ValueId) → renamed_from names v ≡ o → is_none_since (makes f (unless_renamed (stands_within names n) v o)) (makes f v) t ≡ true
        at None e = since_itself (makes f v) t made
        at (Some w) e = spliced n w e

pub accepted_current : AreAcceptedCurrent
accepted_current d f accepted takes stops t i h =
    let Among : Taken → Type 0 = λ x. list_any (is_of x.value) (item_taken f i) ≡ true in
    each_both (IsTakenFrom f t) Among (IsTakenCurrent f t)
    (λ x made among. current d f accepted takes stops t i h x.value made among (length (renamings_of f))) (item_taken f i)
    (operands_defined d f accepted t i h) (each_among (λ (x : Taken). x.value) Among (item_taken f i) (λ x among. among))
