-- Values of two kinds, old ones with names of their own below a bound and spare ones from it on, each kind in rising order: none stands twice, and
-- each is found at its place.
use Rattle.std.proofs.Common.{◌≡◌, ℕ, zero, suc, ◌+◌, ◌<◌, ◌≤◌, List, [], ◌∷◌, ◌++◌, length, refl, sym, ap, ◌∙◌, subst, arith, append_assoc, Bool, true, false}
use Rattle.std.proofs.Common.{not, cond, ◌⊎◌, inl, inr, Some}
use Rattle.std.specs.Prelude.{⊤, filter, slice_get}
use Rattle.std.specs.List.{position_or_len}
use Rattle.std.proofs.lemmas.Bool.{eq-eqb, ne_eqb}
use Rattle.sil_ast.specs.declared.place.ValueId.{ValueId}
use Rattle.ownership_lowering_model.specs.LoweredBlocks.{value_with}
use Rattle.ownership_lowering_model.specs.Numbers.{place_among}
use Rattle.numbered_form.specs.Lists.{Each}
use Rattle.numbered_form.specs.Numbering.{AreCountedFrom, is_value}
use Rattle.holder_model_typing.proofs.RunTypingLaws.Rows.Finding.{each_at}

-- ---- values of which none stands twice

abbrev pub AreApart : List ValueId → Type 0
AreApart [] = ⊤
AreApart (v ∷ vs) = Each (λ w. is_value w v ≡ false) vs × AreApart vs

pub same_value : (v : ValueId) → is_value v v ≡ true
same_value v = eq-eqb v.0 v.0 refl

-- each is found at its place
pub found_at : (vs : List ValueId) (k : ℕ) (v : ValueId) → AreApart vs → slice_get vs k ≡ Some v → position_or_len (is_value v) vs ≡ k
found_at [] k v h e = absurd (cc)
found_at (x ∷ vs) zero v h e =
    let same : x ≡ v = cc in
    ap (λ b. cond (not b) (1 + position_or_len (is_value v) vs) 0) (ap (is_value v) same ∙ same_value v)
found_at (x ∷ vs) (suc k) v h e =
    let rest : position_or_len (is_value v) vs ≡ k = found_at vs k v h.1 e in
    let more : 1 + position_or_len (is_value v) vs ≡ suc k = omega arith in
    ap (λ b. cond (not b) (1 + position_or_len (is_value v) vs) 0) (each_at (λ w. is_value w x ≡ false) vs k v h.0 e) ∙ more

pub place_found : (vs : List ValueId) (k : ℕ) (v : ValueId) → AreApart vs → slice_get vs k ≡ Some v → place_among vs v ≡ value_with k
place_found vs k v h e = ap value_with (found_at vs k v h e)

-- ---- rising values

module _ (bound : ℕ) (own : ValueId → Bool) where
  -- the next old value is at least `old`, and the next spare one at least `spare`
  abbrev pub AreRising : (old spare : ℕ) → List ValueId → Type 0
  AreRising old spare [] = ⊤
  AreRising old spare (v ∷ vs) = ((old ≤ v.0) × (v.0 < bound) × (own v ≡ true) × AreRising (v.0 + 1) spare vs) ⊎ ((spare ≤ v.0) × AreRising old (v.0 + 1) vs)

  abbrev IsLater : ℕ → ℕ → ValueId → Type 0
  IsLater old spare v = ((old ≤ v.0) × (v.0 < bound)) ⊎ (spare ≤ v.0)

  all_later : (old spare n k : ℕ) → n ≤ old → k ≤ spare → (vs : List ValueId) → AreRising old spare vs → Each (IsLater n k) vs
  all_later old spare n k le less [] h = tt
  all_later old spare n k le less (v ∷ vs) (inl h) =
      let from : old ≤ v.0 = h.0 in (inl (omega arith, h.1), all_later (v.0 + 1) spare n k (omega arith) less vs h.3)
  all_later old spare n k le less (v ∷ vs) (inr h) = let from : spare ≤ v.0 = h.0 in (inr (omega arith), all_later old (v.0 + 1) n k le (omega arith) vs h.1)

  differs : (v : ValueId) (vs : List ValueId) → Each (λ w. w.0 ≡ v.0 → ⊥) vs → Each (λ w. is_value w v ≡ false) vs
  differs v [] h = tt
  differs v (w ∷ vs) h = (ne_eqb w.0 v.0 h.0, differs v vs h.1)

  behind_old : (v : ValueId) (spare : ℕ) → bound ≤ spare → v.0 < bound → (vs : List ValueId) → Each (IsLater (v.0 + 1) spare) vs → Each (λ w. w.0 ≡ v.0 → ⊥) vs
  behind_old v spare le lt [] h = tt
  behind_old v spare le lt (w ∷ vs) h = (not_same h.0, behind_old v spare le lt vs h.1)
    where
      not_same : IsLater (v.0 + 1) spare w → w.0 ≡ v.0 → ⊥
      not_same (inl x) e = let from : v.0 + 1 ≤ w.0 = x.0 in omega arith
      not_same (inr x) e = omega arith

  behind_spare : (v : ValueId) (old : ℕ) → bound ≤ v.0 → (vs : List ValueId) → Each (IsLater old (v.0 + 1)) vs → Each (λ w. w.0 ≡ v.0 → ⊥) vs
  behind_spare v old le [] h = tt
  behind_spare v old le (w ∷ vs) h = (not_same h.0, behind_spare v old le vs h.1)
    where
      not_same : IsLater old (v.0 + 1) w → w.0 ≡ v.0 → ⊥
      not_same (inl x) e = let to : w.0 < bound = x.1 in omega arith
      not_same (inr x) e = omega arith

  pub rising_apart : (old spare : ℕ) (vs : List ValueId) → bound ≤ spare → AreRising old spare vs → AreApart vs
  rising_apart old spare [] le h = tt
  rising_apart old spare (v ∷ vs) le (inl h) =
      let lt : v.0 < bound = h.1 in (
        differs v vs (behind_old v spare le lt vs (all_later (v.0 + 1) spare (v.0 + 1) spare (omega arith) (omega arith) vs h.3)),
        rising_apart (v.0 + 1) spare vs le h.3,
      )
  rising_apart old spare (v ∷ vs) le (inr h) =
      let from : spare ≤ v.0 = h.0 in (
        differs v vs (behind_spare v old (omega arith) vs (all_later old (v.0 + 1) old (v.0 + 1) (omega arith) (omega arith) vs h.1)),
        rising_apart old (v.0 + 1) vs (omega arith) h.1,
      )

  -- each is an old value with a name of its own, or a spare one
  pub all_own : (old spare : ℕ) (vs : List ValueId) → bound ≤ spare → AreRising old spare vs → Each (λ v. (own v ≡ true) ⊎ (bound ≤ v.0)) vs
  all_own old spare [] le h = tt
  all_own old spare (v ∷ vs) le (inl h) = (inl h.2, all_own (v.0 + 1) spare vs le h.3)
  all_own old spare (v ∷ vs) le (inr h) = let from : spare ≤ v.0 = h.0 in (inr (omega arith), all_own old (v.0 + 1) vs (omega arith) h.1)

  -- ---- lists that rise, joined

  from_less : (old spare n k : ℕ) → n ≤ old → k ≤ spare → (vs : List ValueId) → AreRising old spare vs → AreRising n k vs
  from_less old spare n k le less [] h = tt
  from_less old spare n k le less (v ∷ vs) (inl h) =
      let from : old ≤ v.0 = h.0 in inl (omega arith, h.1, h.2, from_less (v.0 + 1) spare (v.0 + 1) k (omega arith) less vs h.3)
  from_less old spare n k le less (v ∷ vs) (inr h) =
      let from : spare ≤ v.0 = h.0 in inr (omega arith, from_less old (v.0 + 1) n (v.0 + 1) le (omega arith) vs h.1)

  -- values rise from the first numbers on, where those behind them rise from the last
  abbrev pub Rises : (old spare : ℕ) → List ValueId → (old_after spare_after : ℕ) → Type 0
  Rises old spare vs n k = (rest : List ValueId) → AreRising n k rest → AreRising old spare (vs ++ rest)

  pub rises_none : (old spare n k : ℕ) → old ≤ n → spare ≤ k → Rises old spare [] n k
  rises_none old spare n k le less rest h = from_less n k old spare le less rest h

  pub rises_further : (old spare n k p q : ℕ) (vs : List ValueId) → n ≤ p → k ≤ q → Rises old spare vs n k → Rises old spare vs p q
  rises_further old spare n k p q vs le less g rest h = g rest (from_less p q n k le less rest h)

  pub rises_along : (old spare n k p q : ℕ) (vs ws : List ValueId) → Rises old spare vs n k → Rises n k ws p q → Rises old spare (vs ++ ws) p q
  rises_along old spare n k p q vs ws g h rest r = subst (AreRising old spare) (sym (append_assoc vs ws rest)) (g (ws ++ rest) (h rest r))

  pub rises_spare : (old spare : ℕ) → Rises old spare (value_with spare ∷ []) old (spare + 1)
  rises_spare old spare rest h = inr (omega arith, h)

  pub rises_kept : (old spare : ℕ) (vs : List ValueId) → AreCountedFrom old vs → old + length vs ≤ bound
      → Rises old spare (filter own vs) (old + length vs) spare
  rises_kept old spare [] c le rest h = from_less (old + 0) spare old spare (omega arith) (omega arith) rest h
  rises_kept old spare (v ∷ vs) c le rest h =
      let same : (old + 1) + length vs ≡ old + suc (length vs) = omega arith in
      at (own v) refl (rises_kept (old + 1) spare vs c.1 (omega arith) rest (subst (λ n. AreRising n spare rest) (sym same) h))
    where
      first : v.0 ≡ old
      first = c.0

      at : (b : Bool) → own v ≡ b → AreRising (old + 1) spare (filter own vs ++ rest) → AreRising old spare (cond b (v ∷ filter own vs) (filter own vs) ++ rest)
      at true e behind = inl (omega arith, omega arith, e, subst (λ n. AreRising (n + 1) spare (filter own vs ++ rest)) (sym first) behind)
      at false e behind = from_less (old + 1) spare old spare (omega arith) (omega arith) (filter own vs ++ rest) behind
