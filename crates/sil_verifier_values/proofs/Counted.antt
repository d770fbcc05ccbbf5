-- Values that are counted: each number stands at one place, be it in one list or in one of several.
use Rattle.std.proofs.Common.{◌≡◌, ℕ, zero, suc, ◌+◌, ◌<◌, ◌≤◌, List, [], ◌∷◌, ◌++◌, length, map, refl, sym, ap, ◌∙◌, subst, arith, Some}
use Rattle.std.specs.Prelude.{Contains, option_map, slice_get}
use Rattle.std.specs.List.{flat_map}
use Rattle.std.proofs.lemmas.List.Elements.{Contains-append_left, Contains-append_right}
use Rattle.std.proofs.lemmas.Option.{slice_get-get_or, slice_get-map, slice_get_within}
use Rattle.sil_ast.specs.declared.place.ValueId.{ValueId}
use Rattle.numbered_form.proofs.Counted.{counted_split}
use Rattle.numbered_form.proofs.Lists.{contained}
use Rattle.numbered_form.specs.Numbering.{AreCountedFrom}

-- ---- what a list contains

pub nothing_in : {A : Type 0} (x : A) → Contains [] x → ⊥
nothing_in x c = let lt : c.0 < 0 = c.1 in omega arith

pub stands : {A : Type 0} (xs : List A) (x : A) → Contains xs x → (k : ℕ) × (slice_get xs k ≡ Some x)
stands xs x c = (c.0, slice_get-get_or xs c.0 x c.1 ∙ ap (λ y. Some y) c.2)

pub contains_map : {A B : Type 0} (g : A → B) (xs : List A) (x : A) → Contains xs x → Contains (map g xs) (g x)
contains_map g xs x c =
    let at = stands xs x c in
    contained (map g xs) at.0 (g x) (slice_get-map g xs at.0 ∙ ap (λ o. option_map g o) at.1)

-- what one of several lists contains, all contain together
pub in_all : {A B : Type 0} (g : A → List B) (xs : List A) (k : ℕ) (x : A) (y : B) → slice_get xs k ≡ Some x → Contains (g x) y → Contains (flat_map g xs) y
in_all g [] k x y e c = cc
in_all g (z ∷ xs) zero x y e c = let same : z ≡ x = cc in Contains-append_left (g z) (flat_map g xs) y (subst (λ w. Contains (g w) y) (sym same) c)
in_all g (z ∷ xs) (suc k) x y e c = Contains-append_right (g z) (flat_map g xs) y (in_all g xs k x y e c)

-- ---- the number of a value is its place

pub number_at : (s : ℕ) (vs : List ValueId) (k : ℕ) (v : ValueId) → AreCountedFrom s vs → slice_get vs k ≡ Some v → v.0 ≡ s + k
number_at s [] k v c e = cc
number_at s (w ∷ vs) zero v c e = let first : w.0 ≡ s = c.0 in let same : w ≡ v = cc in let number : w.0 ≡ v.0 = ap (λ x. x.0) same in omega arith
number_at s (w ∷ vs) (suc k) v c e = let rest : v.0 ≡ (s + 1) + k = number_at (s + 1) vs k v c.1 e in omega arith

pub stands_once : (s : ℕ) (vs : List ValueId) (k l : ℕ) (v : ValueId) → AreCountedFrom s vs → slice_get vs k ≡ Some v → slice_get vs l ≡ Some v → k ≡ l
stands_once s vs k l v c e h = let one : v.0 ≡ s + k = number_at s vs k v c e in let other : v.0 ≡ s + l = number_at s vs l v c h in omega arith

pub within : (s : ℕ) (vs : List ValueId) (v : ValueId) → AreCountedFrom s vs → Contains vs v → (s ≤ v.0) × (v.0 < s + length vs)
within s vs v c h =
    let at = stands vs v h in
    let number : v.0 ≡ s + at.0 = number_at s vs at.0 v c at.1 in
    let lt : at.0 < length vs = slice_get_within vs at.0 v at.1 in
    (omega arith, omega arith)

-- of two lists that are counted on, only one has it
pub apart : (s : ℕ) (vs ws : List ValueId) (v : ValueId) → AreCountedFrom s (vs ++ ws) → Contains vs v → Contains ws v → ⊥
apart s vs ws v c h k =
    let both = counted_split s vs ws c in
    let below : v.0 < s + length vs = (within s vs v both.0 h).1 in
    let from : s + length vs ≤ v.0 = (within (s + length vs) ws v both.1 k).0 in
    omega arith

-- ---- several lists that are counted on

pub counted_in : {A : Type 0} (g : A → List ValueId) (s : ℕ) (xs : List A) (k : ℕ) (x : A) → AreCountedFrom s (flat_map g xs) → slice_get xs k ≡ Some x → (t : ℕ) × AreCountedFrom t (g x)
counted_in g s [] k x c e = cc
counted_in g s (y ∷ xs) zero x c e = let same : y ≡ x = cc in (s, subst (λ z. AreCountedFrom s (g z)) same (counted_split s (g y) (flat_map g xs) c).0)
counted_in g s (y ∷ xs) (suc k) x c e = counted_in g (s + length (g y)) xs k x (counted_split s (g y) (flat_map g xs) c).1 e

-- a value stands in one of them
pub one_of : {A : Type 0} (g : A → List ValueId) (s : ℕ) (xs : List A) (k l : ℕ) (x y : A) (v : ValueId) → AreCountedFrom s (flat_map g xs)
    → slice_get xs k ≡ Some x → slice_get xs l ≡ Some y → Contains (g x) v → Contains (g y) v → k ≡ l
one_of g s [] k l x y v c e h p q = cc
one_of g s (z ∷ xs) zero zero x y v c e h p q = refl
one_of g s (z ∷ xs) zero (suc l) x y v c e h p q =
    let same : z ≡ x = cc in absurd (apart s (g z) (flat_map g xs) v c (subst (λ w. Contains (g w) v) (sym same) p) (in_all g xs l y v h q))
one_of g s (z ∷ xs) (suc k) zero x y v c e h p q =
    let same : z ≡ y = cc in absurd (apart s (g z) (flat_map g xs) v c (subst (λ w. Contains (g w) v) (sym same) q) (in_all g xs k x v e p))
one_of g s (z ∷ xs) (suc k) (suc l) x y v c e h p q = ap suc (one_of g (s + length (g z)) xs k l x y v (counted_split s (g z) (flat_map g xs) c).1 e h p q)
