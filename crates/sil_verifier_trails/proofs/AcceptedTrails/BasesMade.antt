-- The bases of what the next item takes are as they were when it was made: by the law of splicing.
use Rattle.std.proofs.Common.{◌≡◌, List, [], ◌∷◌, ◌++◌, reverse, refl, sym, ap, ap₂, ◌∙◌, subst, Bool, true, false, not, ◌&&◌, ◌||◌, ◌⊎◌, inl, inr, eq-eqb}
use Rattle.std.specs.Prelude.{◌==◌}
use Rattle.std.specs.List.{list_any}
use Rattle.std.proofs.lemmas.Bool.{cases_Bool, eqb-true, or_cases, true≢false}
use Rattle.std.proofs.lemmas.List.{reverse-reverse}
use Rattle.sil_cfg_items.specs.Items.{item_taken}
use Rattle.sil_cfg_items.specs.declared.taken.Taken.{Taken}
use Rattle.numbered_form.specs.Lists.{Each}
use Rattle.sil_ast.specs.declared.function.Function.{Function}
use Rattle.sil_ast.specs.declared.place.EdgeId.{EdgeId}
use Rattle.sil_ast.specs.declared.place.ValueId.{ValueId}
use Rattle.sil_cfg.specs.Items.{IsItem, flow_of}
use Rattle.sil_cfg.specs.Walk.{IsTrail}
use Rattle.sil_cfg.specs.declared.item.Item.{Item}
use Rattle.sil_cfg.specs.declared.item.Item.TheVariants as items
use Rattle.sil_cfg.specs.inner.Splice.{Precedes, Stop, is_at, item, same_item}
use Rattle.sil_cfg.proofs.Places.{same_item-true}
use Rattle.sil_verifier_values.specs.sil_types_declarations.TypeDefinitions.Declarations.{Declarations}
use Rattle.sil_verifier_trails.specs.RunTrails.inner.RunTrails.{IsTurnedTrail}
use Rattle.sil_verifier_trails.specs.RunTrails.inner.Since.{is_none_since}
use Rattle.sil_verifier_trails.proofs.RunTrails.SplicedRuns.{are_spliced}
use Rattle.sil_verifier_trails.proofs.RunTrails.TurnedTrails.{are_of_items, turned_item, turned_older}
use Rattle.sil_verifier_trails.specs.AcceptedTrails.inner.Accepted.{IsAcceptedIn}
use Rattle.sil_verifier_trails.specs.AcceptedTrails.inner.Bases.{AreBasesAsMade, HasBasesAsMade, HasBasesOfTaken, IsAsMade, IsBaseOf, MakesAtStops, rests_on}
use Rattle.sil_verifier_trails.specs.AcceptedTrails.inner.Defined.{IsDefinedOn, IsTakenFrom, makes}
use Rattle.sil_verifier_trails.proofs.AcceptedTrails.Tests.{any_alike, any_reversed, each_among, each_weaker, either, or_right, picked, same_value}
use Rattle.sil_verifier_trails.proofs.AcceptedTrails.OperandsDefined.{operands_defined}

-- what passes has come since itself
since_itself : (p : Item → Bool) (t : List Item) → list_any p t ≡ true → is_none_since p p t ≡ true
since_itself p [] h = h
since_itself p (i ∷ t) h = at (p i) (is_none_since p p t) (since_itself p t) h
  where
    at : (here : Bool) (none : Bool) → (list_any p t ≡ true → none ≡ true) → (here || list_any p t) ≡ true → (here || (not here && none)) ≡ true
    at true none more e = refl
    at false none more e = more e

since_alike : (p q r s : Item → Bool) (t : List Item) → Each (λ i. p i ≡ r i) t → Each (λ i. q i ≡ s i) t → is_none_since p q t ≡ is_none_since r s t
since_alike p q r s [] h k = refl
since_alike p q r s (i ∷ t) h k = ap₂ (λ a b. a || b) k.0 (ap₂ (λ a b. not a && b) h.0 (since_alike p q r s t h.1 k.1))

itself : (i : Item) → same_item i i ≡ true
itself items.Entry = refl
itself (items.Inst p) = ap₂ (λ a b. a && b) (eq-eqb p.block.0 p.block.0 refl) (eq-eqb p.index p.index refl)
itself (items.Edge e) = ap₂ (λ a b. a && b) (eq-eqb e.block.0 e.block.0 refl) (eq-eqb e.index e.index refl)
itself (items.Exit p) = ap₂ (λ a b. a && b) (eq-eqb p.block.0 p.block.0 refl) (eq-eqb p.index p.index refl)

module _ (d : Declarations) (f : Function) (accepted : IsAcceptedIn d f) (bases : HasBasesOfTaken d f) where
  -- where bases of defined values are defined, so is one of what the next item takes
  taken_defined : (b : ValueId) (t : List Item) (i : Item) → IsTurnedTrail f (i ∷ t) → ((v : ValueId) → IsDefinedOn f t v → IsBaseOf d f b v → IsDefinedOn f t b) →
      list_any (rests_on d f b) (item_taken f i) ≡ true → IsDefinedOn f t b
  taken_defined b t i h more some =
      let x = picked (rests_on d f b) (IsTakenFrom f t) (item_taken f i) (operands_defined d f accepted t i h) some in
      more x.0.value x.2 x.1

  -- a base of a defined value is defined
  base_defined : (b : ValueId) (t : List Item) → IsTurnedTrail f t → (v : ValueId) → IsDefinedOn f t v → IsBaseOf d f b v → IsDefinedOn f t b
  base_defined b [] h v made base = made
  base_defined b (i ∷ t) h v made base = at (base_defined b t (turned_older f i t h))
    where
      at : ((v : ValueId) → IsDefinedOn f t v → IsBaseOf d f b v → IsDefinedOn f t b) → IsDefinedOn f (i ∷ t) b
      at more = either
          (λ here. either
          (λ same. subst (IsDefinedOn f (i ∷ t)) (sym (same_value b v same)) made)
          (λ some. or_right (makes f b i) (list_any (makes f b) t) (taken_defined b t i h more some))
          (bases i v b (turned_item f i t h) here base))
          (λ before. or_right (makes f b i) (list_any (makes f b) t) (more v before base))
          (or_cases (makes f v i) (list_any (makes f v) t) made)

  -- a trail, the oldest item first, is one turned round
  turned : (w : List EdgeId) (before : List Item) (i : Item) → IsTrail (flow_of f) w (before ++ i ∷ []) → IsTurnedTrail f (i ∷ reverse before)
  turned w before i trail = (w, subst (λ v. IsTrail (flow_of f) w (v ++ i ∷ [])) (sym (reverse-reverse before)) trail)

  abbrev IsStopOf : ValueId → Stop → Type 0
  IsStopOf v s = (i : Item) → IsItem f i → makes f v i ≡ is_at (flow_of f) s i

  -- on a turned trail the value was made just where its stop was
  made_at : (v : ValueId) (s : Stop) → IsStopOf v s → (t : List Item) → IsTurnedTrail f t → Each (λ i. makes f v i ≡ is_at (flow_of f) s i) t
  made_at v s stop t h = each_weaker (IsItem f) (λ i. makes f v i ≡ is_at (flow_of f) s i) stop t (are_of_items f t h)

  -- what is defined on the items before was made at its stop
  stops_before : (v : ValueId) (s : Stop) → IsStopOf v s → (before : List Item) → IsTurnedTrail f (reverse before) → IsDefinedOn f (reverse before) v →
      list_any (is_at (flow_of f) s) before ≡ true
  stops_before v s stop before h made =
      sym (any_reversed (is_at (flow_of f) s) before)
      ∙ sym (any_alike (makes f v) (is_at (flow_of f) s) (reverse before) (made_at v s stop (reverse before) h)) ∙ made

  base_precedes : (b v : ValueId) (r s : Stop) → IsStopOf b r → IsStopOf v s → IsBaseOf d f b v → (b.0 ≡ v.0 → ⊥) → Precedes (flow_of f) r s
  base_precedes b v r s at_b at_v base other w before i trail here =
      let h = turned w before i trail in
      let is = turned_item f i (reverse before) h in
      let older = turned_older f i (reverse before) h in
      let defined = either (λ same. absurd (other same)) (taken_defined b (reverse before) i h (base_defined b (reverse before) older)) (bases i v b is (at_v i is ∙ here) base) in
      stops_before b r at_b before older defined

  taken_precedes : (v : ValueId) (s : Stop) → IsStopOf v s → (i : Item) → list_any (λ y. y.value.0 == v.0) (item_taken f i) ≡ true → Precedes (flow_of f) s (item i)
  taken_precedes v s at_v i among w before j trail here =
      let h = turned w before j trail in
      let older = turned_older f j (reverse before) h in
      let same : j ≡ i = same_item-true j i here in
      let y = picked (λ y. y.value.0 == v.0) (IsTakenFrom f (reverse before)) (item_taken f j) (operands_defined d f accepted (reverse before) j h)
      (ap (λ k. list_any (λ y. y.value.0 == v.0) (item_taken f k)) same ∙ among) in
      stops_before v s at_v before older (subst (IsDefinedOn f (reverse before)) (same_value y.0.value v (eqb-true y.0.value.0 v.0 y.1)) y.2)

  module _ (stops : MakesAtStops f) where
    -- the stop of a value that an item of the trail made
    stop_of : (v : ValueId) (t : List Item) → IsTurnedTrail f t → IsDefinedOn f t v → (s : Stop) × IsStopOf v s
    stop_of v t h made = let i = picked (makes f v) (IsItem f) t (are_of_items f t h) made in stops v i.0 i.2 i.1

    since_base : (t : List Item) (i : Item) → IsTurnedTrail f (i ∷ t) → (v b : ValueId) → IsDefinedOn f t v → list_any (λ y. y.value.0 == v.0) (item_taken f i) ≡ true →
        IsBaseOf d f b v → IsDefinedOn f t b → (b.0 == v.0) ≡ false → is_none_since (makes f b) (makes f v) t ≡ true
    since_base t i h v b made among base base_made other =
        let older = turned_older f i t h in
        let r = stop_of b t older base_made in
        let s = stop_of v t older made in
        let differ : b.0 ≡ v.0 → ⊥ = λ same. true≢false (sym (eq-eqb b.0 v.0 same) ∙ other) in
        since_alike (makes f b) (makes f v) (is_at (flow_of f) r.0) (is_at (flow_of f) s.0) t (made_at b r.0 r.1 t older) (made_at v s.0 s.1 t older)
        ∙ are_spliced f r.0 s.0 (item i) (base_precedes b v r.0 s.0 r.1 s.1 base differ) (taken_precedes v s.0 s.1 i among) t i h (itself i)

    as_made : (t : List Item) (i : Item) → IsTurnedTrail f (i ∷ t) → (v b : ValueId) → IsDefinedOn f t v → list_any (λ y. y.value.0 == v.0) (item_taken f i) ≡ true →
        IsBaseOf d f b v → IsAsMade f t b v
    as_made t i h v b made among base = record { defined = defined; since = at (cases_Bool (b.0 == v.0)) }
      where
        defined : IsDefinedOn f t b
        defined = base_defined b t (turned_older f i t h) v made base

        at : ((b.0 == v.0) ≡ true) ⊎ ((b.0 == v.0) ≡ false) → is_none_since (makes f b) (makes f v) t ≡ true
        at (inl same) = subst (λ u. is_none_since (makes f u) (makes f v) t ≡ true) (same_value v b (sym (eqb-true b.0 v.0 same))) (since_itself (makes f v) t made)
        at (inr other) = since_base t i h v b made among base defined other

-- with what is known of each of two kinds
both_known : {A : Type 0} (P Q R : A → Type 0) → ((x : A) → P x → Q x → R x) → (xs : List A) → Each P xs → Each Q xs → Each R xs
both_known P Q R go [] h k = tt
both_known P Q R go (x ∷ xs) h k = (go x h.0 k.0, both_known P Q R go xs h.1 k.1)

pub bases_as_made : AreBasesAsMade
bases_as_made d f accepted bases stops t i h =
    let Among : Taken → Type 0 = λ x. list_any (λ y. y.value.0 == x.value.0) (item_taken f i) ≡ true in
    both_known (IsTakenFrom f t) Among (HasBasesAsMade d f t)
    (λ x made among b base. as_made d f accepted bases stops t i h x.value b made among base) (item_taken f i)
    (operands_defined d f accepted t i h) (each_among (λ (x : Taken). x.value) Among (item_taken f i) (λ x among. among))
