-- Slots that go on and off a stack whose ranks rise.
use Rattle.std.proofs.Common.{◌≡◌, ◌≢◌, ℕ, ◌+◌, ◌-◌, ◌<◌, ◌≤◌, List, [], ◌∷◌, ◌++◌, length, get_or, take, length-append, refl, sym, ap, ◌∙◌, subst, ◌⊎◌, inl, inr, All, Some, arith}
use Rattle.std.specs.Prelude.{Contains, unwrap_or, remove}
use Rattle.std.specs.List.{slice_get}
use Rattle.std.proofs.Math.ListN.{get_or-append}
use Rattle.std.proofs.lemmas.Bool.{cases_eq, cases_lt}
use Rattle.std.proofs.lemmas.List.Edits.{get_or-remove_below, get_or-remove_above, length-remove}
use Rattle.std.proofs.lemmas.List.Elements.{Contains-append_left, Contains-push, Contains-push_cases}
use Rattle.std.proofs.lemmas.List.Quantifiers.{all_pairs_push, all_pairs_remove}
use Rattle.std.proofs.lemmas.Option.{none-some, slice_get_past, unwrap_or-slice_get}
use Rattle.sil_ast.specs.declared.place.ValueId.{ValueId}
use Rattle.memory_rules_accesses.specs.declared.access.Access.{Access}
use Rattle.memory_rules_accesses.specs.declared.access.Access.TheVariants.{Allocates, Deallocates}
use Rattle.memory_rules_accesses.specs.declared.source.Source.{Source}
use Rattle.memory_rules_slots.specs.declared.doubts.Doubts.{Doubts}
use Rattle.memory_rules_slots.specs.inner.Trust.{IsTrusted, Keeps}
use Rattle.memory_rules_slots.specs.inner.Nesting.{rank_at, AreRising}
use Rattle.memory_rules_slots.specs.inner.Followed.{AreFollowed, ArePassed, IsTop, StandsAt}
use Rattle.memory_rules_slots.proofs.SlotsListed.{same_value}
use Rattle.memory_rules_slots.proofs.StacksFollowed.{entered, left, more_followed, more_passed, item_passed, below_top, top_highest}

top_there : (stack : List ValueId) (top : ValueId) → Some top ≡ slice_get stack (length stack - 1) → (length stack - 1 < length stack) × ((d : ValueId) → get_or stack (length stack - 1) d ≡ top)
top_there stack top e = at (cases_lt (length stack - 1) (length stack))
  where
    at : (length stack - 1 < length stack) ⊎ (length stack ≤ length stack - 1) → (length stack - 1 < length stack) × ((d : ValueId) → get_or stack (length stack - 1) d ≡ top)
    at (inl lt) = (lt, λ d. sym (unwrap_or-slice_get stack (length stack - 1) d) ∙ ap (λ o. unwrap_or o d) (sym e))
    at (inr le) = absurd (none-some top (sym (slice_get_past stack (length stack - 1) le) ∙ sym e))

module _ (ranks : List ℕ) where
  pub above_all : (stack : List ValueId) (top slot : ValueId) → Some top ≡ slice_get stack (length stack - 1) → rank_at ranks top < rank_at ranks slot → AreRising ranks stack
      → All (λ u. rank_at ranks u < rank_at ranks slot) stack
  above_all stack top slot e less rising k d within = at (cases_lt k (length stack - 1))
    where
      last : rank_at ranks (get_or stack (length stack - 1) d) ≡ rank_at ranks top
      last = ap (rank_at ranks) ((top_there stack top e).1 d)

      at : (k < length stack - 1) ⊎ (length stack - 1 ≤ k) → rank_at ranks (get_or stack k d) < rank_at ranks slot
      at (inl lt) = let low : rank_at ranks (get_or stack k d) < rank_at ranks (get_or stack (length stack - 1) d) = rising k (length stack - 1) d lt (omega arith) in omega (arith, last)
      at (inr le) = let same : k ≡ length stack - 1 = omega arith in
          let here : rank_at ranks (get_or stack k d) ≡ rank_at ranks (get_or stack (length stack - 1) d) = ap (λ n. rank_at ranks (get_or stack n d)) same in omega (arith, last)

  pub rising_push : (stack : List ValueId) (v : ValueId) → AreRising ranks stack → All (λ u. rank_at ranks u < rank_at ranks v) stack → AreRising ranks (stack ++ v ∷ [])
  rising_push stack v rising below = all_pairs_push (λ (x y : ValueId). rank_at ranks x < rank_at ranks y) stack v rising (λ k d lt. below k d lt)

  pub rising_front : (stack : List ValueId) (v : ValueId) → AreRising ranks (stack ++ v ∷ []) → AreRising ranks stack
  rising_front stack v rising i j d lt within =
      let R : ValueId → ValueId → Type 0 = λ x y. rank_at ranks x < rank_at ranks y in
      let size : length (stack ++ v ∷ []) ≡ length stack + 1 = length-append stack (v ∷ []) in
      let before : i < length stack = omega arith in
      subst (λ x. R x (get_or stack j d)) (get_or-append stack (v ∷ []) d i before)
      (subst (R (get_or (stack ++ v ∷ []) i d)) (get_or-append stack (v ∷ []) d j within) (rising i j d lt (omega arith)))

removed_stays : (old : List ValueId) (slot : ValueId) (place : ℕ) → StandsAt old slot place → (u : ValueId) → u.0 ≢ slot.0 → Contains old u → Contains (remove old place) u
removed_stays old slot place stands u other there = at (cases_lt there.0 place) (cases_eq there.0 place)
  where
    size : length (remove old place) + 1 ≡ length old
    size = length-remove old place stands.0

    at : (there.0 < place) ⊎ (place ≤ there.0) → (there.0 ≡ place) ⊎ (there.0 ≢ place) → Contains (remove old place) u
    at (inl lt) e = (there.0, (let few = stands.0 in omega (arith, size)), get_or-remove_below old place u there.0 lt stands.0 ∙ there.2)
    at (inr le) (inl e) = absurd (other (ap (λ (v : ValueId). v.0) (sym there.2 ∙ ap (λ n. get_or old n u) e) ∙ stands.1 u))
    at (inr le) (inr ne) =
        let back : there.0 - 1 + 1 ≡ there.0 = omega arith in
        (there.0 - 1, (let within = there.1 in omega (arith, size)), get_or-remove_above old place u (there.0 - 1) (omega arith) stands.0 ∙ ap (λ n. get_or old n u) back ∙ there.2)

module _ (sources : List Source) (ranks : List ℕ) where
  -- a slot that is on top already
  pub top_entered : (v : ValueId) (stack : List ValueId) (d : Doubts) → IsTop stack v → AreFollowed sources ranks stack (Allocates v ∷ []) stack d d
  top_entered v stack d top = record {
    keeps = λ v t. t;
    rising = λ r. r;
    follows = λ r a t. entered ranks sources v stack stack a (subst (λ l. Contains l v) (sym top) (Contains-push front v)) (λ c u there. there)
        (λ c differs. at a r differs (Contains-push_cases front v a (subst (λ l. Contains l a) top c)));
  }
    where
      front : List ValueId
      front = take (length stack - 1) stack

      at : (a : ValueId) → AreRising ranks stack → a.0 ≢ v.0 → Contains (take (length stack - 1) stack) a ⊎ (v ≡ a) → rank_at ranks a < rank_at ranks v
      at a r differs (inl c) = below_top ranks (take (length stack - 1) stack) v (subst (AreRising ranks) top r) a c
      at a r differs (inr e) = absurd (differs (ap (λ (x : ValueId). x.0) (sym e)))

  -- one that has a greater rank than all
  pub pushed : (v : ValueId) (old : List ValueId) (d : Doubts) → (AreRising ranks old → All (λ u. rank_at ranks u < rank_at ranks v) old)
      → AreFollowed sources ranks old (Allocates v ∷ []) (old ++ v ∷ []) d d
  pushed v old d above = record {
    keeps = λ v t. t;
    rising = λ r. rising_push ranks old v r (above r);
    follows = λ r a t. entered ranks sources v old (old ++ v ∷ []) a (Contains-push old v) (λ c u there. Contains-append_left old (v ∷ []) u there)
        (λ c differs. subst (λ (x : ValueId). rank_at ranks x < rank_at ranks v) c.2 (above r c.0 a c.1));
  }

  -- one for which all others are left in doubt
  pub alone : (v : ValueId) (old : List ValueId) (was is : Doubts) → Keeps was is → All (λ a. IsTrusted is a → ⊥) old → AreFollowed sources ranks old (Allocates v ∷ []) (v ∷ []) was is
  alone v old was is keeps doubted = record {
    keeps = keeps;
    rising = λ r i j d lt within. absurd (let one : length (v ∷ []) ≡ 1 = refl in omega (arith, one));
    follows = λ r a t. entered ranks sources v old (v ∷ []) a (Contains-push [] v) (λ c u there. absurd (lost a t c)) (λ c differs. absurd (lost a t c));
  }
    where
      lost : (a : ValueId) → IsTrusted is a → Contains old a → ⊥
      lost a t c = subst (λ (x : ValueId). IsTrusted is x → ⊥) c.2 (doubted c.0 a c.1) t

  -- the top goes out
  pub top_left : (v : ValueId) (old new : List ValueId) (d : Doubts) → IsTop old v → new ≡ take (length old - 1) old → AreFollowed sources ranks old (Deallocates v ∷ []) new d d
  top_left v old new d top is = record {
    keeps = λ v t. t;
    rising = λ r. rising_front ranks new v (subst (AreRising ranks) parts r);
    follows = λ r a t. left ranks sources v old new a (λ u other there. stays u other (Contains-push_cases new v u (subst (λ l. Contains l u) parts there)))
        (λ same b there less. top_highest ranks old new v parts r b there (subst (λ (x : ValueId). rank_at ranks x < rank_at ranks b) (sym (same_value v a same)) less));
  }
    where
      parts : old ≡ new ++ v ∷ []
      parts = top ∙ ap (λ l. l ++ v ∷ []) (sym is)

      stays : (u : ValueId) → u.0 ≢ v.0 → Contains new u ⊎ (v ≡ u) → Contains new u
      stays u other (inl c) = c
      stays u other (inr e) = absurd (other (ap (λ (x : ValueId). x.0) (sym e)))

  -- one that is in doubt goes out
  pub doubted_left : (v : ValueId) (old new : List ValueId) (was is : Doubts) → Keeps was is → (IsTrusted is v → ⊥) → (AreRising ranks old → AreRising ranks new) →
      ((u : ValueId) → u.0 ≢ v.0 → Contains old u → Contains new u) →
      AreFollowed sources ranks old (Deallocates v ∷ []) new was is
  doubted_left v old new was is keeps doubted rising stays = record {
    keeps = keeps;
    rising = rising;
    follows = λ r a t. left ranks sources v old new a stays (λ same b there less. doubted (subst (IsTrusted is) (sym (same_value v a same)) t));
  }

  pub removed_left : (v : ValueId) (old new : List ValueId) (place : ℕ) (was is : Doubts) → Keeps was is → (IsTrusted is v → ⊥) → StandsAt old v place → new ≡ remove old place
      → AreFollowed sources ranks old (Deallocates v ∷ []) new was is
  removed_left v old new place was is keeps doubted stands e =
      doubted_left v old new was is keeps doubted
      (λ r. subst (AreRising ranks) (sym e) (all_pairs_remove (λ (x y : ValueId). rank_at ranks x < rank_at ranks y) old place stands.0 r))
      (λ u other there. subst (λ l. Contains l u) (sym e) (removed_stays old v place stands u other there))

  pub followed_more : (old mid new : List ValueId) (xs ys : List Access) (was now is : Doubts) → AreFollowed sources ranks old xs mid was now → AreFollowed sources ranks mid ys new now is
      → AreFollowed sources ranks old (xs ++ ys) new was is
  followed_more old mid new xs ys was now is h k = record {
    keeps = λ v t. h.keeps v (k.keeps v t);
    rising = λ r. k.rising (h.rising r);
    follows = λ r a t. more_followed ranks sources old mid new xs ys a (h.follows r a (k.keeps a t)) (k.follows (h.rising r) a t);
  }

  module _ (accesses : ℕ → List Access) where
    pub passed_item : (old new : List ValueId) (i : ℕ) (was is : Doubts) → AreFollowed sources ranks old (accesses i) new was is → ArePassed sources ranks accesses old (i ∷ []) new was is
    passed_item old new i was is h = record { keeps = h.keeps; rising = h.rising; passes = λ r a t. item_passed ranks sources accesses old new i a (h.follows r a t) }

    pub passed_more : (old mid new : List ValueId) (xs ys : List ℕ) (was now is : Doubts) → ArePassed sources ranks accesses old xs mid was now → ArePassed sources ranks accesses mid ys new now is
        → ArePassed sources ranks accesses old (xs ++ ys) new was is
    passed_more old mid new xs ys was now is h k = record {
      keeps = λ v t. h.keeps v (k.keeps v t);
      rising = λ r. k.rising (h.rising r);
      passes = λ r a t. more_passed ranks sources accesses old mid new xs ys a (h.passes r a (k.keeps a t)) (k.passes (h.rising r) a t);
    }
