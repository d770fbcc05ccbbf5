-- Lists of values that are counted, and what is found in them.
use Rattle.std.proofs.Common.{◌≡◌, ℕ, suc, ◌+◌, ◌<◌, ◌≤◌, List, [], ◌∷◌, ◌++◌, length, refl, sym, ap, ◌∙◌, subst, arith, Bool, true, false, ◌⊎◌, inl, inr, Some}
use Rattle.std.specs.Prelude.{◌||◌, slice_get}
use Rattle.std.specs.List.{list_any}
use Rattle.std.proofs.lemmas.Bool.{cases_lt, eqb-false, eqb-true, or_left, or_right}
use Rattle.sil_ast.specs.declared.place.ValueId.{ValueId}
use Rattle.numbered_form.specs.Lists.{Each}
use Rattle.numbered_form.specs.Numbering.{AreCountedFrom, is_value}

pub counted_split : (n : ℕ) (xs ys : List ValueId) → AreCountedFrom n (xs ++ ys) → AreCountedFrom n xs × AreCountedFrom (n + length xs) ys
counted_split n [] ys c = let same : n ≡ n + 0 = omega arith in (tt, subst (λ m. AreCountedFrom m ys) same c)
counted_split n (x ∷ xs) ys c =
    let rest = counted_split (n + 1) xs ys c.1 in
    let same : (n + 1) + length xs ≡ n + suc (length xs) = omega arith in
    ((c.0, rest.0), subst (λ m. AreCountedFrom m ys) same rest.1)

pub counted_below : (n : ℕ) (vs : List ValueId) → AreCountedFrom n vs → Each (λ v. v.0 < n + length vs) vs
counted_below n [] h = tt
counted_below n (v ∷ vs) h =
    let first : v.0 ≡ n = h.0 in
    let same : (n + 1) + length vs ≡ n + suc (length vs) = omega arith in
    (omega arith, subst (λ k. Each (λ w. w.0 < k) vs) same (counted_below (n + 1) vs h.1))

pub counted_from : (n : ℕ) (vs : List ValueId) → ((k : ℕ) (v : ValueId) → slice_get vs k ≡ Some v → v.0 ≡ n + k) → AreCountedFrom n vs
counted_from n [] h = tt
counted_from n (v ∷ vs) h =
    let first : v.0 ≡ n + 0 = h 0 v refl in
    (omega arith, counted_from (n + 1) vs (λ k w e. let at : w.0 ≡ n + suc k = h (suc k) w e in omega arith))

-- a value that is counted is among those that are
pub any_counted : (n : ℕ) (vs : List ValueId) (v : ValueId) → AreCountedFrom n vs → n ≤ v.0 → v.0 < n + length vs → list_any (is_value v) vs ≡ true
any_counted n [] v c from to = absurd (omega arith)
any_counted n (x ∷ vs) v c from to = at (is_value v x) refl (λ lt. any_counted (n + 1) vs v c.1 lt (omega arith))
  where
    first : x.0 ≡ n
    first = c.0

    at_least : (n < v.0) ⊎ (v.0 ≤ n) → (v.0 ≡ x.0 → ⊥) → n + 1 ≤ v.0
    at_least (inl lt) other = omega arith
    at_least (inr le) other = absurd (other (omega arith))

    at : (b : Bool) → is_value v x ≡ b → (n + 1 ≤ v.0 → list_any (is_value v) vs ≡ true) → (is_value v x || list_any (is_value v) vs) ≡ true
    at true is rest = or_left (is_value v x) (list_any (is_value v) vs) is
    at false is rest =
        let other : v.0 ≡ x.0 → ⊥ = eqb-false v.0 x.0 is in
        or_right (is_value v x) (list_any (is_value v) vs) (rest (at_least (cases_lt n v.0) other))

-- the value that a test of all finds stands somewhere
pub stands_somewhere : (vs : List ValueId) (v : ValueId) → list_any (is_value v) vs ≡ true → (k : ℕ) × (slice_get vs k ≡ Some v)
stands_somewhere [] v e = absurd (cc)
stands_somewhere (x ∷ vs) v e = at (is_value v x) refl (λ h. stands_somewhere vs v h)
  where
    at : (b : Bool) → is_value v x ≡ b → (list_any (is_value v) vs ≡ true → (k : ℕ) × (slice_get vs k ≡ Some v)) → (k : ℕ) × (slice_get (x ∷ vs) k ≡ Some v)
    at true is among = let number : v.0 ≡ x.0 = eqb-true v.0 x.0 is in (0, ap (λ n. Some (record { 0 = n })) (sym number))
    at false is among = let rest = among (sym (ap (λ b. b || list_any (is_value v) vs) is) ∙ e) in (suc rest.0, rest.1)
