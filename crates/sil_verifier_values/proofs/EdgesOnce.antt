-- Elements that pass a test at most once stand at one place, also in several lists together.
use Rattle.std.proofs.Common.{◌≡◌, ℕ, zero, suc, ◌+◌, ◌≤◌, List, [], ◌∷◌, ◌++◌, length, length-append, refl, sym, ap, ◌∙◌, subst, arith, Bool, true, false, cond, ◌⊎◌, inl, inr, Option, Some, None}
use Rattle.std.specs.Prelude.{Contains, filter, slice_get}
use Rattle.std.specs.List.{cons_option, filter_map, flat_map}
use Rattle.std.proofs.lemmas.List.Elements.{Contains-append_cases, Contains-append_right, filter-append}
use Rattle.sil_verifier_values.proofs.Counted.{nothing_in, stands}

module _ {A : Type 0} (test : A → Bool) where
  -- how many pass
  abbrev passing : List A → ℕ
  passing xs = length (filter test xs)

  both_pass : (xs ys : List A) → passing (xs ++ ys) ≡ passing xs + passing ys
  both_pass xs ys = ap length (filter-append test xs ys) ∙ length-append (filter test xs) (filter test ys)

  first_passes : (z x : A) (xs : List A) → z ≡ x → test x ≡ true → passing (z ∷ xs) ≡ suc (passing xs)
  first_passes z x xs same h = ap (λ b. length (cond b (z ∷ filter test xs) (filter test xs))) (ap test same ∙ h)

  passing_later : (z : A) (xs : List A) → passing xs ≤ passing (z ∷ xs)
  passing_later z xs = at (test z)
    where
      at : (b : Bool) → passing xs ≤ length (cond b (z ∷ filter test xs) (filter test xs))
      at true = omega arith
      at false = omega arith

  one_passes : (xs : List A) (k : ℕ) (x : A) → slice_get xs k ≡ Some x → test x ≡ true → 1 ≤ passing xs
  one_passes [] k x e h = cc
  one_passes (y ∷ xs) zero x e h = let same : y ≡ x = cc in let count = first_passes y x xs same h in omega (arith, count)
  one_passes (y ∷ xs) (suc k) x e h = let rest = one_passes xs k x e h in let more = passing_later y xs in omega (arith, rest, more)

  two_pass : (z x : A) (xs : List A) (l : ℕ) (y : A) → passing (z ∷ xs) ≤ 1 → z ≡ x → test x ≡ true → slice_get xs l ≡ Some y → test y ≡ true → ⊥
  two_pass z x xs l y le same p h q = let count = first_passes z x xs same p in let more = one_passes xs l y h q in omega (arith, le, count, more)

  once : (xs : List A) (k l : ℕ) (x y : A) → passing xs ≤ 1 → slice_get xs k ≡ Some x → slice_get xs l ≡ Some y → test x ≡ true → test y ≡ true → k ≡ l
  once [] k l x y le e h p q = cc
  once (z ∷ xs) zero zero x y le e h p q = refl
  once (z ∷ xs) zero (suc l) x y le e h p q = absurd (two_pass z x xs l y le (cc) p h q)
  once (z ∷ xs) (suc k) zero x y le e h p q = absurd (two_pass z y xs k x le (cc) q e p)
  once (z ∷ xs) (suc k) (suc l) x y le e h p q = ap suc (once xs k l x y (let more = passing_later z xs in omega (arith, le, more)) e h p q)

  -- of several lists together
  module _ {B : Type 0} (g : B → List A) where
    one_passes_in : (bs : List B) (k j : ℕ) (b : B) (x : A) → slice_get bs k ≡ Some b → slice_get (g b) j ≡ Some x → test x ≡ true → 1 ≤ passing (flat_map g bs)
    one_passes_in [] k j b x e h p = cc
    one_passes_in (c ∷ bs) zero j b x e h p =
        let same : c ≡ b = cc in
        let one = one_passes (g c) j x (ap (λ z. slice_get (g z) j) same ∙ h) p in
        let both = both_pass (g c) (flat_map g bs) in
        omega (arith, one, both)
    one_passes_in (c ∷ bs) (suc k) j b x e h p =
        let one = one_passes_in bs k j b x e h p in
        let both = both_pass (g c) (flat_map g bs) in
        omega (arith, one, both)

    two_lists : (z : B) (bs : List B) (l i j : ℕ) (b c : B) (x y : A) → passing (flat_map g (z ∷ bs)) ≤ 1 → z ≡ b → slice_get bs l ≡ Some c
        → slice_get (g b) i ≡ Some x → slice_get (g c) j ≡ Some y → test x ≡ true → test y ≡ true → ⊥
    two_lists z bs l i j b c x y le same h s t p q =
        let one = one_passes (g z) i x (ap (λ r. slice_get (g r) i) same ∙ s) p in
        let more = one_passes_in bs l j c y h t q in
        let both = both_pass (g z) (flat_map g bs) in
        omega (arith, le, one, more, both)

    pub once_in : (bs : List B) (k l i j : ℕ) (b c : B) (x y : A) → passing (flat_map g bs) ≤ 1 → slice_get bs k ≡ Some b → slice_get bs l ≡ Some c
        → slice_get (g b) i ≡ Some x → slice_get (g c) j ≡ Some y → test x ≡ true → test y ≡ true → (k ≡ l) × (i ≡ j)
    once_in [] k l i j b c x y le e h s t p q = cc
    once_in (z ∷ bs) zero zero i j b c x y le e h s t p q =
        let both = both_pass (g z) (flat_map g bs) in
        let one : z ≡ b = cc in
        let other : z ≡ c = cc in
        (refl, once (g z) i j x y (omega (arith, le, both)) (ap (λ r. slice_get (g r) i) one ∙ s) (ap (λ r. slice_get (g r) j) other ∙ t) p q)
    once_in (z ∷ bs) zero (suc l) i j b c x y le e h s t p q = absurd (two_lists z bs l i j b c x y le (cc) h s t p q)
    once_in (z ∷ bs) (suc k) zero i j b c x y le e h s t p q = absurd (two_lists z bs k j i c b y x le (cc) e t s q p)
    once_in (z ∷ bs) (suc k) (suc l) i j b c x y le e h s t p q =
        let both = both_pass (g z) (flat_map g bs) in
        let rest = once_in bs k l i j b c x y (omega (arith, le, both)) e h s t p q in
        (ap suc rest.0, rest.1)

-- what several lists contain together stands in one of them
pub from_all : {A B : Type 0} (g : B → List A) (bs : List B) (x : A) → Contains (flat_map g bs) x → (k : ℕ) × (b : B) × (slice_get bs k ≡ Some b) × Contains (g b) x
from_all g [] x c = absurd (nothing_in x c)
from_all {A} {B} g (b ∷ bs) x c = at (Contains-append_cases (g b) (flat_map g bs) x c) (from_all g bs x)
  where
    at : Contains (g b) x ⊎ Contains (flat_map g bs) x → (Contains (flat_map g bs) x → (k : ℕ) × (d : B) × (slice_get bs k ≡ Some d) × Contains (g d) x)
        → (k : ℕ) × (d : B) × (slice_get (b ∷ bs) k ≡ Some d) × Contains (g d) x
    at (inl h) rest = (0, b, refl, h)
    at (inr h) rest = let r = rest h in (suc r.0, r.1, r.2, r.3)

abbrev KeptFrom : {A B : Type 0} → (A → Option B) → List A → B → Type 0
KeptFrom {A} h xs y = (k : ℕ) × (x : A) × (slice_get xs k ≡ Some x) × (h x ≡ Some y)

-- what is kept is made of an element
pub from_kept : {A B : Type 0} (h : A → Option B) (xs : List A) (y : B) → Contains (filter_map h xs) y → (k : ℕ) × (x : A) × (slice_get xs k ≡ Some x) × (h x ≡ Some y)
from_kept h [] y c = absurd (nothing_in y c)
from_kept {A} {B} h (x ∷ xs) y c = at (h x) refl c (from_kept h xs y)
  where
    later : KeptFrom h xs y → KeptFrom h (x ∷ xs) y
    later r = (suc r.0, r.1, r.2, r.3)

    only : (w : B) (k : ℕ) → slice_get (w ∷ []) k ≡ Some y → Some w ≡ Some y
    only w zero e = e
    only w (suc k) e = cc

    at : (o : Option B) → h x ≡ o → Contains (cons_option o (filter_map h xs)) y → (Contains (filter_map h xs) y → KeptFrom h xs y) → KeptFrom h (x ∷ xs) y
    at None e c rest = later (rest c)
    at (Some w) e c rest = by (Contains-append_cases (w ∷ []) (filter_map h xs) y c)
      where
        by : Contains (w ∷ []) y ⊎ Contains (filter_map h xs) y → KeptFrom h (x ∷ xs) y
        by (inl one) = let it = stands (w ∷ []) y one in (0, x, refl, e ∙ only w it.0 it.1)
        by (inr more) = later (rest more)

pub into_kept : {A B : Type 0} (h : A → Option B) (xs : List A) (k : ℕ) (x : A) (y : B) → slice_get xs k ≡ Some x → h x ≡ Some y → Contains (filter_map h xs) y
into_kept h [] k x y e is = cc
into_kept h (z ∷ xs) zero x y e is =
    let same : z ≡ x = cc in
    subst (λ o. Contains (cons_option o (filter_map h xs)) y) (sym (ap h same ∙ is)) (0, omega arith, refl)
into_kept {A} {B} h (z ∷ xs) (suc k) x y e is = at (h z) (into_kept h xs k x y e is)
  where
    at : (o : Option B) → Contains (filter_map h xs) y → Contains (cons_option o (filter_map h xs)) y
    at None c = c
    at (Some w) c = Contains-append_right (w ∷ []) (filter_map h xs) y c

pub none_first : {A : Type 0} (xs : List A) (x : A) → slice_get xs 0 ≡ None → Contains xs x → ⊥
none_first [] x e c = nothing_in x c
none_first (y ∷ xs) x e c = cc
