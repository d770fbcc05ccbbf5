-- A stack that is followed along accesses goes on to cover each slot that isn't in doubt.
use Rattle.std.proofs.Common.{◌≡◌, ◌≢◌, ℕ, zero, suc, ◌+◌, ◌<◌, List, [], ◌∷◌, ◌++◌, length, get_or, length-append, refl, sym, ap, ◌∙◌, subst, ◌⊎◌, inl, inr, All, Bool, true, false, Some, None, arith}
use Rattle.std.specs.Prelude.{◌==◌, cond, Contains}
use Rattle.std.proofs.lemmas.Bool.{eqb-true}
use Rattle.std.proofs.lemmas.List.Elements.{All-contains, Contains-push_cases}
use Rattle.std.proofs.Math.ListN.{get_or-append}
use Rattle.std.proofs.Math.Seq.{get_or-append_seam}
use Rattle.sil_ast.specs.declared.place.ValueId.{ValueId}
use Rattle.reach_engine.specs.declared.scan.Step.{Step}
use Rattle.reach_engine.specs.declared.scan.Step.TheVariants.{Go, Bad}
use Rattle.reach_engine.specs.inner.Run.{run}
use Rattle.reach_engine.proofs.Runs.{run-append}
use Rattle.memory_rules_accesses.specs.reach_engine_marks.PathPatterns.inner.Reads.{read_step, step_in}
use Rattle.memory_rules_accesses.specs.declared.access.Access.{Access}
use Rattle.memory_rules_accesses.specs.declared.access.Access.TheVariants.{Allocates, Deallocates}
use Rattle.memory_rules_accesses.specs.declared.source.Source.{Source}
use Rattle.memory_rules_slots.specs.inner.Automaton.{order_step}
use Rattle.memory_rules_slots.specs.Marks.{pair_mark}
use Rattle.memory_rules_slots.specs.inner.Automaton.{pair_step}
use Rattle.memory_rules_slots.specs.inner.Nesting.{rank_at, AreRising, Covers, GoesTo, Follows, Passes}
use Rattle.memory_rules_slots.specs.declared.mark.SlotMark.TheVariants.{FirstIn, FirstOut, SecondIn, SecondOut}
use Rattle.memory_rules_slots.proofs.SlotsListed.{same_value}

abbrev Both : ValueId → ValueId → ℕ → Access → Step
Both a b = read_step order_step (pair_mark a b)

-- what goes on to one state after another
pub goes_on : {A : Type 0} (f : ℕ → A → Step) (P Q : ℕ → Type 0) (r : Step) (xs : List A) → GoesTo P r → ((s : ℕ) → P s → GoesTo Q (run f (Go s) xs)) → GoesTo Q (run f r xs)
goes_on f P Q (Go s) xs h next = next s h
goes_on f P Q (Bad c) xs h next = absurd h

pub goes_through : {A : Type 0} (f : ℕ → A → Step) (P Q : ℕ → Type 0) (s : ℕ) (xs ys : List A) → GoesTo P (run f (Go s) xs) → ((t : ℕ) → P t → GoesTo Q (run f (Go t) ys))
    → GoesTo Q (run f (Go s) (xs ++ ys))
goes_through f P Q s xs ys h next = subst (GoesTo Q) (sym (run-append f (Go s) xs ys)) (goes_on f P Q (run f (Go s) xs) ys h next)

module _ (ranks : List ℕ) where
  -- a stack that has no less
  pub covers_more : (old new : List ValueId) (a b : ValueId) → (Contains old a → Contains new a) → (Contains old a → Contains old b → Contains new b) → (s : ℕ) → Covers ranks old a b s
      → Covers ranks new a b s
  covers_more old new a b fst snd zero h = tt
  covers_more old new a b fst snd (suc zero) h = fst h
  covers_more old new a b fst snd (suc (suc zero)) h = tt
  covers_more old new a b fst snd (suc (suc (suc zero))) h = (fst h.0, snd h.0 h.1, h.2)
  covers_more old new a b fst snd (suc (suc (suc (suc s)))) h = fst h

  module _ (sources : List Source) where
    -- a slot goes in, above the first one
    pub entered : (v : ValueId) (old new : List ValueId) (a : ValueId) → Contains new v → (Contains old a → (u : ValueId) → Contains old u → Contains new u) →
        (Contains old a → a.0 ≢ v.0 → rank_at ranks a < rank_at ranks v) →
        Follows sources ranks old (Allocates v ∷ []) new a
    entered v old new a there stays above sa b sb s h = at (v.0 == a.0) (v.0 == b.0) refl refl s h
      where
        more : (s : ℕ) → Covers ranks old a b s → Covers ranks new a b s
        more s h = covers_more old new a b (λ c. stays c a c) (λ c d. stays c b d) s h

        first : v.0 ≡ a.0 → Contains new a
        first e = subst (Contains new) (same_value v a e) there

        second : v.0 ≡ b.0 → Contains new b
        second e = subst (Contains new) (same_value v b e) there

        higher : v.0 ≡ b.0 → (v.0 == a.0) ≡ false → Contains old a → rank_at ranks a < rank_at ranks b
        higher e n c = subst (λ w. rank_at ranks a < rank_at ranks w) (same_value v b e) (above c (λ same. differs n (sym same)))
          where
            differs : (v.0 == a.0) ≡ false → v.0 ≡ a.0 → ⊥
            differs n same = no (sym n ∙ ap (λ k. k == a.0) same ∙ itself a.0)
              where
                no : false ≡ true → ⊥
                no e = cc

                itself : (n : ℕ) → (n == n) ≡ true
                itself n = search arith

        at : (t u : Bool) → (v.0 == a.0) ≡ t → (v.0 == b.0) ≡ u → (s : ℕ) → Covers ranks old a b s
            → GoesTo (Covers ranks new a b) (step_in order_step s (cond t (Some FirstIn) (cond u (Some SecondIn) None)))
        at true u ea eb zero h = first (eqb-true v.0 a.0 ea)
        at true u ea eb (suc zero) h = more 1 h
        at true u ea eb (suc (suc zero)) h = first (eqb-true v.0 a.0 ea)
        at true u ea eb (suc (suc (suc zero))) h = more 3 h
        at true u ea eb (suc (suc (suc (suc s)))) h = more 4 h
        at false true ea eb zero h = tt
        at false true ea eb (suc zero) h = (stays h a h, second (eqb-true v.0 b.0 eb), higher (eqb-true v.0 b.0 eb) ea h)
        at false true ea eb (suc (suc zero)) h = tt
        at false true ea eb (suc (suc (suc zero))) h = more 3 h
        at false true ea eb (suc (suc (suc (suc s)))) h = more 4 h
        at false false ea eb s h = more s h

    -- a slot goes out; if it is the first one, none stands above it
    pub left : (v : ValueId) (old new : List ValueId) (a : ValueId) → ((u : ValueId) → u.0 ≢ v.0 → Contains old u → Contains new u) →
        (v.0 ≡ a.0 → (b : ValueId) → Contains old b → rank_at ranks a < rank_at ranks b → ⊥) →
        Follows sources ranks old (Deallocates v ∷ []) new a
    left v old new a stays highest sa b sb s h = at (v.0 == a.0) (v.0 == b.0) refl refl s h
      where
        differs : (w : ValueId) → (v.0 == w.0) ≡ false → w.0 ≢ v.0
        differs w n same = no (sym n ∙ ap (λ k. v.0 == k) same ∙ itself v.0)
          where
            no : false ≡ true → ⊥
            no e = cc

            itself : (n : ℕ) → (n == n) ≡ true
            itself n = search arith

        at : (t u : Bool) → (v.0 == a.0) ≡ t → (v.0 == b.0) ≡ u → (s : ℕ) → Covers ranks old a b s
            → GoesTo (Covers ranks new a b) (step_in order_step s (cond t (Some FirstOut) (cond u (Some SecondOut) None)))
        at true u ea eb zero h = tt
        at true u ea eb (suc zero) h = tt
        at true u ea eb (suc (suc zero)) h = tt
        at true u ea eb (suc (suc (suc zero))) h = highest (eqb-true v.0 a.0 ea) b h.1 h.2
        at true u ea eb (suc (suc (suc (suc s)))) h = tt
        at false true ea eb zero h = tt
        at false true ea eb (suc zero) h = stays a (differs a ea) h
        at false true ea eb (suc (suc zero)) h = tt
        at false true ea eb (suc (suc (suc zero))) h = stays a (differs a ea) h.0
        at false true ea eb (suc (suc (suc (suc s)))) h = stays a (differs a ea) h
        at false false ea eb s h = covers_more old new a b (stays a (differs a ea)) (λ c. stays b (differs b eb)) s h

    pub more_followed : (old mid new : List ValueId) (xs ys : List Access) (a : ValueId) → Follows sources ranks old xs mid a → Follows sources ranks mid ys new a
        → Follows sources ranks old (xs ++ ys) new a
    more_followed old mid new xs ys a h k sa b sb s covered = goes_through (Both a b) (Covers ranks mid a b) (Covers ranks new a b) s xs ys (h sa b sb s covered) (λ t on. k sa b sb t on)

    module _ (accesses : ℕ → List Access) where
      pub none_passed : (stack : List ValueId) (a : ValueId) → Passes sources ranks accesses stack [] stack a
      none_passed stack a sa b sb s h = h

      pub more_passed : (old mid new : List ValueId) (xs ys : List ℕ) (a : ValueId) → Passes sources ranks accesses old xs mid a → Passes sources ranks accesses mid ys new a
          → Passes sources ranks accesses old (xs ++ ys) new a
      more_passed old mid new xs ys a h k sa b sb s covered = goes_through (pair_step accesses a b) (Covers ranks mid a b) (Covers ranks new a b) s xs ys (h sa b sb s covered) (λ t on. k sa b sb t on)

      pub item_passed : (old new : List ValueId) (i : ℕ) (a : ValueId) → Follows sources ranks old (accesses i) new a → Passes sources ranks accesses old (i ∷ []) new a
      item_passed old new i a h sa b sb s covered = h sa b sb s covered

      -- a stack that has all of the last one, if it has the slot
      pub passed_within : (old mid new : List ValueId) (items : List ℕ) (a : ValueId) → (Contains mid a → All (Contains new) mid) → Passes sources ranks accesses old items mid a
          → Passes sources ranks accesses old items new a
      passed_within old mid new items a within h sa b sb s covered =
          on (run (pair_step accesses a b) (Go s) items) (h sa b sb s covered)
        where
          on : (r : Step) → GoesTo (Covers ranks mid a b) r → GoesTo (Covers ranks new a b) r
          on (Go t) c = covers_more mid new a b (λ there. All-contains (Contains new) mid a (within there) there) (λ there other. All-contains (Contains new) mid b (within there) other) t c
          on (Bad code) c = c

  -- on a stack whose ranks rise each is below the top, and none above it
  pub below_top : (new : List ValueId) (v : ValueId) → AreRising ranks (new ++ v ∷ []) → (b : ValueId) → Contains new b → rank_at ranks b < rank_at ranks v
  below_top new v rising b there =
      let size : length (new ++ v ∷ []) ≡ length new + 1 = length-append new (v ∷ []) in
      let R : ValueId → ValueId → Type 0 = λ x y. rank_at ranks x < rank_at ranks y in
      let here : get_or (new ++ v ∷ []) there.0 b ≡ b = get_or-append new (v ∷ []) b there.0 there.1 ∙ there.2 in
      let top : get_or (new ++ v ∷ []) (length new) b ≡ v = get_or-append_seam new v [] b in
      subst (λ x. R x v) here (subst (R (get_or (new ++ v ∷ []) there.0 b)) top (rising there.0 (length new) b there.1 (omega arith)))

  pub top_highest : (old new : List ValueId) (v : ValueId) → old ≡ new ++ v ∷ [] → AreRising ranks old → (b : ValueId) → Contains old b → rank_at ranks v < rank_at ranks b → ⊥
  top_highest old new v parts rising b there less = at (Contains-push_cases new v b (subst (λ l. Contains l b) parts there))
    where
      rising_new : AreRising ranks (new ++ v ∷ [])
      rising_new = subst (AreRising ranks) parts rising

      at : Contains new b ⊎ (v ≡ b) → ⊥
      at (inl c) = let lt = below_top new v rising_new b c in omega arith
      at (inr e) = let same : rank_at ranks v ≡ rank_at ranks b = ap (rank_at ranks) e in omega arith
