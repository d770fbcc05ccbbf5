-- In a graph without rings each number is seen whole within as many steps as there are numbers.
use Rattle.std.proofs.Common.{◌≡◌, ℕ, zero, suc, ◌+◌, ◌<◌, ◌≤◌, List, [], ◌∷◌, length, refl, sym, ap, ◌∙◌, subst, arith, Bool, true, false, ◌⊎◌, inl, inr, le-leb}
use Rattle.std.specs.Prelude.{Contains, nat_le, ◌&&◌}
use Rattle.std.specs.List.{list_all}
use Rattle.std.proofs.lemmas.Bool.{and_parts, cases_lt, false≢true, leb-true}
use Rattle.std.proofs.lemmas.List.Elements.{Contains-append_right}
use Rattle.number_tables.specs.ContainmentOrder.Chains.{Graph, HasNoRing, parts_of}
use Rattle.number_tables.proofs.ContainmentOrder.RingLemmas.{some_ring}

-- no chain of so many steps begins at the number. What lies beyond the graph has no parts
abbrev pub is_seen : Graph → ℕ → ℕ → Bool
is_seen graph zero v = nat_le (length graph) v
is_seen graph (suc k) v = list_all (is_seen graph k) (parts_of graph v)

no_parts : (graph : Graph) (v : ℕ) → length graph ≤ v → parts_of graph v ≡ []
no_parts [] v le = refl
no_parts (x ∷ graph) zero le = absurd (omega arith)
no_parts (x ∷ graph) (suc v) le = no_parts graph v (omega arith)

-- a number that fails the test
some_failing : (test : ℕ → Bool) (vs : List ℕ) → list_all test vs ≡ false → (w : ℕ) × Contains vs w × (test w ≡ false)
some_failing test [] e = absurd (cc)
some_failing test (v ∷ vs) e = at (test v) refl (λ p. some_failing test vs (sym (ap (λ b. b && list_all test vs) p) ∙ e))
  where
    at : (b : Bool) → test v ≡ b → (test v ≡ true → (w : ℕ) × Contains vs w × (test w ≡ false)) → (w : ℕ) × Contains (v ∷ vs) w × (test w ≡ false)
    at false p rest = (v, (0, omega arith, refl), p)
    at true p rest = let found = rest p in (found.0, Contains-append_right (v ∷ []) vs found.0 found.1, found.2)

module _ (graph : Graph) where
  beyond : (k v : ℕ) → length graph ≤ v → is_seen graph k v ≡ true
  beyond zero v le = le-leb (length graph) v le
  beyond (suc k) v le = ap (list_all (is_seen graph k)) (no_parts graph v le)

  inside : (k v : ℕ) → is_seen graph k v ≡ false → v < length graph
  inside k v e = at (cases_lt v (length graph))
    where
      at : (v < length graph) ⊎ (length graph ≤ v) → v < length graph
      at (inl lt) = lt
      at (inr le) = absurd (false≢true (sym e ∙ beyond k v le))

  -- what is seen within some steps is seen within one more

  all_more : (k : ℕ) → ((v : ℕ) → is_seen graph k v ≡ true → is_seen graph (suc k) v ≡ true)
      → (vs : List ℕ) → list_all (is_seen graph k) vs ≡ true → list_all (is_seen graph (suc k)) vs ≡ true
  all_more k more [] e = refl
  all_more k more (v ∷ vs) e =
      let parts = and_parts (is_seen graph k v) (list_all (is_seen graph k) vs) e in
      ap (λ b. b && list_all (is_seen graph (suc k)) vs) (more v parts.0) ∙ all_more k more vs parts.1

  one_more : (k v : ℕ) → is_seen graph k v ≡ true → is_seen graph (suc k) v ≡ true
  one_more zero v e = beyond 1 v (leb-true (length graph) v e)
  one_more (suc k) v e = all_more k (one_more k) (parts_of graph v) e

  -- how many of the first numbers aren't seen

  unseen_one : Bool → ℕ
  unseen_one true = 0
  unseen_one false = 1

  unseen : ℕ → ℕ → ℕ
  unseen k zero = 0
  unseen k (suc m) = unseen k m + unseen_one (is_seen graph k m)

  few_one : (b : Bool) → unseen_one b ≤ 1
  unfolding unseen_one
  few_one true = omega arith
  few_one false = omega arith

  few : (k m : ℕ) → unseen k m ≤ m
  unfolding unseen
  few k zero = omega arith
  few k (suc m) = omega (arith, few k m, few_one (is_seen graph k m))

  none_one : (b : Bool) → unseen_one b ≡ 0 → b ≡ true
  unfolding unseen_one
  none_one true e = refl
  none_one false e = absurd (omega arith)

  none_left : (k m : ℕ) → unseen k m ≡ 0 → (v : ℕ) → v < m → is_seen graph k v ≡ true
  unfolding unseen
  none_left k zero e v lt = absurd (omega arith)
  none_left k (suc m) e v lt = at (cases_lt v m) (none_left k m (omega arith) v)
    where
      at : (v < m) ⊎ (m ≤ v) → (v < m → is_seen graph k v ≡ true) → is_seen graph k v ≡ true
      at (inl before) rest = rest before
      at (inr le) rest = let last : v ≡ m = omega arith in ap (is_seen graph k) last ∙ none_one (is_seen graph k m) (omega arith)

  abbrev IsStable : ℕ → ℕ → Type 0
  IsStable k m = (v : ℕ) → v < m → is_seen graph (suc k) v ≡ is_seen graph k v

  -- with one step more either more numbers are seen or the same ones
  abbrev Goes : ℕ → ℕ → Type 0
  Goes k m = (unseen (suc k) m < unseen k m) ⊎ ((unseen (suc k) m ≡ unseen k m) × IsStable k m)

  goes_one : (b c : Bool) → (b ≡ true → c ≡ true) → (unseen_one c < unseen_one b) ⊎ (c ≡ b)
  unfolding unseen_one
  goes_one true c h = inr (h refl)
  goes_one false true h = inl (omega arith)
  goes_one false false h = inr refl

  goes : (k m : ℕ) → Goes k m
  unfolding unseen
  goes k zero = inr (refl, λ v lt. absurd (omega arith))
  goes k (suc m) = at (goes_one (is_seen graph k m) (is_seen graph (suc k) m) (one_more k m)) (goes k m)
    where
      stable : IsStable k m → is_seen graph (suc k) m ≡ is_seen graph k m → IsStable k (suc m)
      stable before here v lt = by (cases_lt v m)
        where
          by : (v < m) ⊎ (m ≤ v) → is_seen graph (suc k) v ≡ is_seen graph k v
          by (inl less) = before v less
          by (inr le) = let last : v ≡ m = omega arith in subst (λ w. is_seen graph (suc k) w ≡ is_seen graph k w) (sym last) here

      no_more : (b c : Bool) → (unseen_one c < unseen_one b) ⊎ (c ≡ b) → unseen_one c ≤ unseen_one b
      no_more b c (inl less) = omega arith
      no_more b c (inr e) = let same : unseen_one c ≡ unseen_one b = ap unseen_one e in omega arith

      at : (unseen_one (is_seen graph (suc k) m) < unseen_one (is_seen graph k m)) ⊎ (is_seen graph (suc k) m ≡ is_seen graph k m) → Goes k m → Goes k (suc m)
      at one (inl less) = let le : unseen_one (is_seen graph (suc k) m) ≤ unseen_one (is_seen graph k m) = no_more (is_seen graph k m) (is_seen graph (suc k) m) one in inl (omega arith)
      at (inl less) (inr (same, before)) = inl (omega arith)
      at (inr e) (inr (same, before)) = inr (ap (λ n. n + unseen_one (is_seen graph (suc k) m)) same ∙ ap (λ b. unseen k m + unseen_one b) e, stable before e)

  module _ (none : HasNoRing graph) where
    -- where the same numbers are seen with one step more, all are seen: else each unseen one has an unseen part
    stable_sees : (k : ℕ) → IsStable k (length graph) → (v : ℕ) → is_seen graph k v ≡ true
    stable_sees k stable v = at (is_seen graph k v) refl
      where
        next : (v : ℕ) → is_seen graph k v ≡ false → (w : ℕ) × Contains (parts_of graph v) w × (w < length graph) × (is_seen graph k w ≡ false)
        next v e =
            let found = some_failing (is_seen graph k) (parts_of graph v) (stable v (inside k v e) ∙ e) in
            (found.0, found.1, inside k found.0 found.2, found.2)

        at : (b : Bool) → is_seen graph k v ≡ b → is_seen graph k v ≡ true
        at true e = e
        at false e = let ring = some_ring graph (λ w. is_seen graph k w ≡ false) next v e in absurd (none ring.0 ring.2)

    abbrev Sees : ℕ → Type 0
    Sees k = ((v : ℕ) → is_seen graph k v ≡ true) ⊎ (unseen k (length graph) + k ≤ length graph)

    sees : (k : ℕ) → Sees k
    sees zero = inr (omega (arith, few 0 (length graph)))
    sees (suc k) = at (sees k) (goes k (length graph))
      where
        at : Sees k → Goes k (length graph) → Sees (suc k)
        at (inl all) _ = inl (λ v. one_more k v (all v))
        at (inr left) (inl less) = inr (omega arith)
        at (inr left) (inr (same, stable)) = inl (λ v. one_more k v (stable_sees k stable v))

    pub all_seen : (v : ℕ) → is_seen graph (length graph) v ≡ true
    all_seen v = at (sees (length graph))
      where
        by : unseen (length graph) (length graph) ≡ 0 → (v < length graph) ⊎ (length graph ≤ v) → is_seen graph (length graph) v ≡ true
        by done (inl lt) = none_left (length graph) (length graph) done v lt
        by done (inr le) = beyond (length graph) v le

        at : Sees (length graph) → is_seen graph (length graph) v ≡ true
        at (inl all) = all v
        at (inr left) = by (omega arith) (cases_lt v (length graph))
