-- Marks of subjects, one after another.
use Rattle.std.proofs.Common.{◌≡◌, ◌≢◌, ◌⊎◌, inl, inr, ℕ, ◌+◌, ◌<◌, ◌≤◌, List, length, set, sym, ap, ◌∙◌, subst, Bool, true, false, arith}
use Rattle.std.specs.Prelude.{◌↔◌}
use Rattle.std.proofs.lemmas.Bool.{cases_eq, cases_lt}
use Rattle.std.proofs.lemmas.List.{get_or-set_other, get_or-set_same}
use Rattle.sil_cfg.specs.Flow.{Flow}
use Rattle.reach_engine.specs.declared.scan.Step.{Step}
use Rattle.reach_engine_marks.specs.KeptSubjects.inner.Broken.{AreMarked, GoesBroken, GoesBrokenBefore, is_broken}

module _ (first : ℕ) (IsSo : ℕ → Type 0) (old : List Bool) where
  pub marked_none : AreMarked first 0 IsSo old old
  marked_none v = (λ h. inl h, λ h. at h)
    where
      at : (is_broken old v ≡ true) ⊎ ((u : ℕ) × (u < 0) × (v ≡ first + u) × IsSo u) → is_broken old v ≡ true
      at (inl h) = h
      at (inr h) = absurd (let none : h.0 < 0 = h.1 in omega arith)

  module _ (count : ℕ) (mid : List Bool) (h : AreMarked first count IsSo old mid) where
    abbrev Marked : ℕ → ℕ → Type 0
    Marked n v = (is_broken old v ≡ true) ⊎ ((u : ℕ) × (u < n) × (v ≡ first + u) × IsSo u)

    more : (v : ℕ) → Marked count v → Marked (count + 1) v
    more v (inl e) = inl e
    more v (inr p) = inr (p.0, (let lt : p.0 < count = p.1 in omega arith), p.2, p.3)

    less : (v : ℕ) → (v ≡ first + count → ⊥) → Marked (count + 1) v → Marked count v
    less v ne (inl e) = inl e
    less v ne (inr p) = at (cases_lt p.0 count)
      where
        at : (p.0 < count) ⊎ (count ≤ p.0) → Marked count v
        at (inl lt) = inr (p.0, lt, p.2, p.3)
        at (inr le) = absurd (ne (let lt : p.0 < count + 1 = p.1 in let e : v ≡ first + p.0 = p.2 in omega arith))

    -- one more is so
    pub marked_yes : first + count < length mid → IsSo count → AreMarked first (count + 1) IsSo old (set mid (first + count) true)
    marked_yes within so v = at (cases_eq v (first + count))
      where
        at : (v ≡ first + count) ⊎ (v ≢ first + count) → (is_broken (set mid (first + count) true) v ≡ true) ↔ Marked (count + 1) v
        at (inl e) = (
          λ t. inr (count, (omega arith), e, so),
          λ t. ap (is_broken (set mid (first + count) true)) e ∙ get_or-set_same mid (first + count) true false within,
        )
        at (inr ne) =
            let other : is_broken (set mid (first + count) true) v ≡ is_broken mid v = get_or-set_other mid (first + count) v true false ne in
            (λ t. more v ((h v).0 (sym other ∙ t)), λ t. other ∙ (h v).1 (less v ne t))

    -- one more isn't
    pub marked_no : (IsSo count → ⊥) → AreMarked first (count + 1) IsSo old mid
    marked_no not v = (λ t. more v ((h v).0 t), λ t. (h v).1 (at t))
      where
        at : Marked (count + 1) v → Marked count v
        at (inl e) = inl e
        at (inr p) = by_case (cases_lt p.0 count)
          where
            by_case : (p.0 < count) ⊎ (count ≤ p.0) → Marked count v
            by_case (inl lt) = inr (p.0, lt, p.2, p.3)
            by_case (inr le) = absurd (let lt : p.0 < count + 1 = p.1 in let same : p.0 ≡ count = omega arith in not (subst IsSo same p.3))

-- one of two things is so
pub marked_either : (first count : ℕ) (One Two Either : ℕ → Type 0) (old mid new : List Bool) → ((u : ℕ) → One u → Either u) → ((u : ℕ) → Two u → Either u) → ((u : ℕ) → Either u → One u ⊎ Two u)
    → AreMarked first count One old mid → AreMarked first count Two mid new → AreMarked first count Either old new
marked_either first count One Two Either old mid new one two split a b v = (λ t. forth ((b v).0 t), λ t. back t)
  where
    earlier : (is_broken old v ≡ true) ⊎ ((u : ℕ) × (u < count) × (v ≡ first + u) × One u) → (is_broken old v ≡ true) ⊎ ((u : ℕ) × (u < count) × (v ≡ first + u) × Either u)
    earlier (inl e) = inl e
    earlier (inr p) = inr (p.0, p.1, p.2, one p.0 p.3)

    forth : (is_broken mid v ≡ true) ⊎ ((u : ℕ) × (u < count) × (v ≡ first + u) × Two u) → (is_broken old v ≡ true) ⊎ ((u : ℕ) × (u < count) × (v ≡ first + u) × Either u)
    forth (inl e) = earlier ((a v).0 e)
    forth (inr p) = inr (p.0, p.1, p.2, two p.0 p.3)

    of : (u : ℕ) → u < count → v ≡ first + u → One u ⊎ Two u → is_broken new v ≡ true
    of u lt e (inl h) = (b v).1 (inl ((a v).1 (inr (u, lt, e, h))))
    of u lt e (inr h) = (b v).1 (inr (u, lt, e, h))

    back : (is_broken old v ≡ true) ⊎ ((u : ℕ) × (u < count) × (v ≡ first + u) × Either u) → is_broken new v ≡ true
    back (inl e) = (b v).1 (inl ((a v).1 (inl e)))
    back (inr p) = of p.0 p.1 p.2 (split p.0 p.3)

module _ (g : Flow ℕ) (f : ℕ → ℕ → ℕ → Step) (width : ℕ) (words : List ℕ) (first count : ℕ) (old : List Bool) where
  pub no_blocks : AreMarked first count (GoesBrokenBefore g f width words 0) old old
  no_blocks v = (λ h. inl h, λ h. at h)
    where
      at : (is_broken old v ≡ true) ⊎ ((u : ℕ) × (u < count) × (v ≡ first + u) × GoesBrokenBefore g f width words 0 u) → is_broken old v ≡ true
      at (inl h) = h
      at (inr h) = absurd (let none : h.3.block < 0 = h.3.before in omega arith)

  pub more_blocks : (b : ℕ) (mid new : List Bool) → AreMarked first count (GoesBrokenBefore g f width words b) old mid → AreMarked first count (GoesBroken g f width words b) mid new
      → AreMarked first count (GoesBrokenBefore g f width words (b + 1)) old new
  more_blocks b mid new =
      marked_either first count (GoesBrokenBefore g f width words b) (GoesBroken g f width words b) (GoesBrokenBefore g f width words (b + 1)) old mid new
      (λ u h. record { block = h.block; before = (let lt : h.block < b = h.before in omega arith); goes = h.goes })
      (λ u h. record { block = b; before = omega arith; goes = h })
      split
    where
      split : (u : ℕ) → GoesBrokenBefore g f width words (b + 1) u → GoesBrokenBefore g f width words b u ⊎ GoesBroken g f width words b u
      split u h = at (cases_lt h.block b)
        where
          at : (h.block < b) ⊎ (b ≤ h.block) → GoesBrokenBefore g f width words b u ⊎ GoesBroken g f width words b u
          at (inl lt) = inl (record { block = h.block; before = lt; goes = h.goes })
          at (inr le) = let same : h.block ≡ b = let lt : h.block < b + 1 = h.before in omega arith in inr (subst (λ x. GoesBroken g f width words x u) same h.goes)
