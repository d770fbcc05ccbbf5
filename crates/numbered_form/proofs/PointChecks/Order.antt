-- The first of some faults comes before all others.
use Rattle.std.proofs.Common.{◌≡◌, ℕ, ◌<◌, List, [], ◌∷◌, refl, sym, ◌∙◌, subst, arith, ◌⊎◌, inl, inr, Bool, true, false, Some, None}
use Rattle.std.specs.Prelude.{◌==◌, nat_lt, if◌then◌else◌}
use Rattle.std.proofs.lemmas.Bool.Decides.{nat_tests}
use Rattle.sil_rules.specs.Order.{NotAfter}
use Rattle.sil_rules.proofs.Keys.{not_after_refl, not_after_trans}
use Rattle.numbered_form.specs.PointChecks.inner.Faults.{comes_before, key_of, least, lesser}
use Rattle.numbered_form.specs.declared.point_checks.fault.PointFault.{PointFault}
use Rattle.numbered_form.proofs.PointChecks.Among.{Among}

-- what is told of one element of each of two keys, and of what is behind it
by_head : (x y : ℕ) (xs ys : List ℕ) → (comes_before xs ys ≡ true → NotAfter xs ys) → (comes_before xs ys ≡ false → NotAfter ys xs) →
    (b : Bool) → (x == y) ≡ b →
    ((if b then comes_before xs ys else nat_lt x y) ≡ true → NotAfter (x ∷ xs) (y ∷ ys)) ×
    ((if b then comes_before xs ys else nat_lt x y) ≡ false → NotAfter (y ∷ ys) (x ∷ xs))
by_head x y xs ys before behind true e =
    let same : x ≡ y = grind (arith, nat_tests) in
    (λ h. inr (same, before h), λ h. inr (sym same, behind h))
by_head x y xs ys before behind false e = (λ h. inl (less h), λ h. inl (more h))
  where
    less : nat_lt x y ≡ true → x < y
    less h = grind (arith, nat_tests)

    more : nat_lt x y ≡ false → y < x
    more h = grind (arith, nat_tests)

before_told : (x y a b c d e f : ℕ) → (comes_before (x ∷ a ∷ b ∷ c ∷ []) (y ∷ d ∷ e ∷ f ∷ []) ≡ true → NotAfter (x ∷ a ∷ b ∷ c ∷ []) (y ∷ d ∷ e ∷ f ∷ []))
    × (comes_before (x ∷ a ∷ b ∷ c ∷ []) (y ∷ d ∷ e ∷ f ∷ []) ≡ false → NotAfter (y ∷ d ∷ e ∷ f ∷ []) (x ∷ a ∷ b ∷ c ∷ []))
before_told x y a b c d e f =
    let four = by_head c f [] [] (λ _. tt) (λ _. tt) (c == f) refl in
    let three = by_head b e (c ∷ []) (f ∷ []) four.0 four.1 (b == e) refl in
    let two = by_head a d (b ∷ c ∷ []) (e ∷ f ∷ []) three.0 three.1 (a == d) refl in
    by_head x y (a ∷ b ∷ c ∷ []) (d ∷ e ∷ f ∷ []) two.0 two.1 (x == y) refl

-- the lesser of two is one of them, and comes before both
pub record IsLesser (a x r : PointFault) : Type 0 where
  pub one : (r ≡ a) ⊎ (r ≡ x)
  pub before_a : NotAfter (key_of r) (key_of a)
  pub before_x : NotAfter (key_of r) (key_of x)

lesser_told : (a x : PointFault) → IsLesser a x (lesser (Some a) x)
lesser_told a x = by (comes_before (key_of x) (key_of a)) refl
  where
    told : (comes_before (key_of x) (key_of a) ≡ true → NotAfter (key_of x) (key_of a)) × (comes_before (key_of x) (key_of a) ≡ false → NotAfter (key_of a) (key_of x))
    told = before_told _ _ _ _ _ _ _ _

    by : (b : Bool) → comes_before (key_of x) (key_of a) ≡ b → IsLesser a x (if comes_before (key_of x) (key_of a) then x else a)
    by true e = subst (λ b. IsLesser a x (if b then x else a)) (sym e) (record { one = inr refl; before_a = told.0 e; before_x = not_after_refl (key_of x) })
    by false e = subst (λ b. IsLesser a x (if b then x else a)) (sym e) (record { one = inl refl; before_a = not_after_refl (key_of a); before_x = told.1 e })

-- the first of what was found and of a list
pub record IsFirstOf (found : PointFault) (xs : List PointFault) (r : PointFault) : Type 0 where
  pub one : (r ≡ found) ⊎ Among r xs
  pub before_found : NotAfter (key_of r) (key_of found)
  pub before : (y : PointFault) → Among y xs → NotAfter (key_of r) (key_of y)

first_told : (found : PointFault) (xs : List PointFault) → (r : PointFault) × (least (Some found) xs ≡ Some r) × IsFirstOf found xs r
first_told found [] = (found, refl, record { one = inl refl; before_found = not_after_refl (key_of found); before = λ y h. absurd h })
first_told found (x ∷ xs) = further (lesser_told found x) (first_told (lesser (Some found) x) xs)
  where
    further : IsLesser found x (lesser (Some found) x) → (r : PointFault) × (least (Some (lesser (Some found) x)) xs ≡ Some r) × IsFirstOf (lesser (Some found) x) xs r →
        (r : PointFault) × (least (Some (lesser (Some found) x)) xs ≡ Some r) × IsFirstOf found (x ∷ xs) r
    further l t = (t.0, t.1, record { one = is t.2.one l.one; before_found = not_after_trans (key_of t.0) (key_of (lesser (Some found) x)) (key_of found) t.2.before_found l.before_a; before = all })
      where
        is : (t.0 ≡ lesser (Some found) x) ⊎ Among t.0 xs → (lesser (Some found) x ≡ found) ⊎ (lesser (Some found) x ≡ x) → (t.0 ≡ found) ⊎ Among t.0 (x ∷ xs)
        is (inl e) (inl a) = inl (e ∙ a)
        is (inl e) (inr b) = inr (inl (e ∙ b))
        is (inr h) o = inr (inr h)

        all : (y : PointFault) → Among y (x ∷ xs) → NotAfter (key_of t.0) (key_of y)
        all y (inl e) =
            subst (λ z. NotAfter (key_of t.0) (key_of z)) (sym e)
            (not_after_trans (key_of t.0) (key_of (lesser (Some found) x)) (key_of x) t.2.before_found l.before_x)
        all y (inr h) = t.2.before y h

-- the least of a list is in it, and comes before all of it
pub least_among : (xs : List PointFault) (r : PointFault) → least None xs ≡ Some r → Among r xs × ((y : PointFault) → Among y xs → NotAfter (key_of r) (key_of y))
least_among [] r h = absurd cc
least_among (x ∷ xs) r h = at (first_told x xs)
  where
    at : (s : PointFault) × (least (Some x) xs ≡ Some s) × IsFirstOf x xs s → Among r (x ∷ xs) × ((y : PointFault) → Among y (x ∷ xs) → NotAfter (key_of r) (key_of y))
    at t = let is : t.0 ≡ r = (let e : Some t.0 ≡ Some r = sym t.1 ∙ h in cc) in
        subst (λ s. Among s (x ∷ xs) × ((y : PointFault) → Among y (x ∷ xs) → NotAfter (key_of s) (key_of y))) is (among t.2.one, before)
      where
        among : (t.0 ≡ x) ⊎ Among t.0 xs → Among t.0 (x ∷ xs)
        among (inl e) = inl e
        among (inr h) = inr h

        before : (y : PointFault) → Among y (x ∷ xs) → NotAfter (key_of t.0) (key_of y)
        before y (inl e) = subst (λ z. NotAfter (key_of t.0) (key_of z)) (sym e) t.2.before_found
        before y (inr h) = t.2.before y h

pub least_none : (xs : List PointFault) (y : PointFault) → least None xs ≡ None → Among y xs → ⊥
least_none [] y h a = a
least_none (x ∷ xs) y h a = at (first_told x xs)
  where
    at : (s : PointFault) × (least (Some x) xs ≡ Some s) × IsFirstOf x xs s → ⊥
    at t = let e : None ≡ Some t.0 = sym h ∙ t.1 in absurd cc
