-- A list of which one element is changed and a later one is gone.
use Rattle.std.proofs.Common.{◌≡◌, ◌≢◌, ℕ, zero, suc, ◌+◌, ◌<◌, ◌≤◌, List, [], ◌∷◌, ◌++◌, length, refl, sym, ap, ◌∙◌, arith, Some}
use Rattle.std.specs.Prelude.{option_map}
use Rattle.std.specs.List.{flat_map, remove, slice_get}
use Rattle.std.proofs.lemmas.Option.{none-some, same_Some}
use Rattle.copy_pairing_model.specs.Rewritten.{changed_at}
use Rattle.copy_pairing_acceptance.specs.MovedFunctions.inner.Structure.{stood_at}

-- ---- one element changed

module _ {X : Type 0} (change : X → X) where
  pub changed_length : (n : ℕ) (xs : List X) → length (changed_at n change xs) ≡ length xs
  changed_length n [] = refl
  changed_length zero (x ∷ xs) = refl
  changed_length (suc n) (x ∷ xs) = ap suc (changed_length n xs)

  pub changed_there : (n : ℕ) (xs : List X) → slice_get (changed_at n change xs) n ≡ option_map change (slice_get xs n)
  changed_there n [] = refl
  changed_there zero (x ∷ xs) = refl
  changed_there (suc n) (x ∷ xs) = changed_there n xs

  pub changed_elsewhere : (n k : ℕ) (xs : List X) → k ≢ n → slice_get (changed_at n change xs) k ≡ slice_get xs k
  changed_elsewhere n k [] ne = refl
  changed_elsewhere zero zero (x ∷ xs) ne = absurd (ne refl)
  changed_elsewhere zero (suc k) (x ∷ xs) ne = refl
  changed_elsewhere (suc n) zero (x ∷ xs) ne = refl
  changed_elsewhere (suc n) (suc k) (x ∷ xs) ne = changed_elsewhere n k xs (λ e. ne (ap suc e))

  pub changed_behind : (front : List X) (x : X) (back : List X) → changed_at (length front) change (front ++ x ∷ back) ≡ front ++ change x ∷ back
  changed_behind [] x back = refl
  changed_behind (y ∷ front) x back = ap (λ v. y ∷ v) (changed_behind front x back)

  -- what is told of the elements stays, where it stays for the changed one
  pub told_alike : {Y : Type 0} (tell : X → List Y) (n : ℕ) (xs : List X) (x : X) → slice_get xs n ≡ Some x → tell (change x) ≡ tell x
      → flat_map tell (changed_at n change xs) ≡ flat_map tell xs
  told_alike tell n [] x e same = refl
  told_alike tell zero (y ∷ xs) x e same = ap (λ v. v ++ flat_map tell xs) (ap (λ z. tell (change z)) here ∙ same ∙ sym (ap tell here))
    where
      here : y ≡ x
      here = same_Some y x e
  told_alike tell (suc n) (y ∷ xs) x e same = ap (λ v. tell y ++ v) (told_alike tell n xs x e same)

-- ---- one element gone

pub removed : {X : Type 0} (front : List X) (x : X) (back : List X) → remove (front ++ x ∷ back) (length front) ≡ front ++ back
removed [] x back = refl
removed (y ∷ front) x back = ap (λ v. y ∷ v) (removed front x back)

pub stood_before : (last k : ℕ) → k < last → stood_at last k ≡ k
stood_before zero k lt = absurd (omega arith)
stood_before (suc last) zero lt = refl
stood_before (suc last) (suc k) lt = ap suc (stood_before last k (omega arith))

pub stood_behind : (last k : ℕ) → last ≤ k → stood_at last k ≡ suc k
stood_behind zero k le = refl
stood_behind (suc last) zero le = absurd (omega arith)
stood_behind (suc last) (suc k) le = ap suc (stood_behind last k (omega arith))

gone_from : {X : Type 0} (middle back : List X) (y : X) (k : ℕ) → slice_get (middle ++ back) k ≡ slice_get (middle ++ y ∷ back) (stood_at (length middle) k)
gone_from [] back y k = refl
gone_from (z ∷ middle) back y zero = refl
gone_from (z ∷ middle) back y (suc k) = gone_from middle back y k

module _ {X : Type 0} (x x' : X) (middle : List X) (y : X) (back : List X) where
  -- each other element stood where it stands, or one further behind
  pub stood_there : (front : List X) (last k : ℕ) → length front + suc (length middle) ≡ last → k ≢ length front
      → slice_get (front ++ x' ∷ (middle ++ back)) k ≡ slice_get (front ++ x ∷ (middle ++ y ∷ back)) (stood_at last k)
  stood_there [] last zero size ne = absurd (ne refl)
  stood_there [] last (suc k) size ne =
      gone_from middle back y k ∙ ap (λ n. slice_get (x ∷ (middle ++ y ∷ back)) (stood_at n (suc k))) (let e : suc (length middle) ≡ last = omega arith in e)
  stood_there (z ∷ front) zero k size ne = absurd (omega arith)
  stood_there (z ∷ front) (suc last) zero size ne = refl
  stood_there (z ∷ front) (suc last) (suc k) size ne = stood_there front last k (omega arith) (λ e. ne (ap suc e))

pub at_seam : {X : Type 0} (front : List X) (x : X) (back : List X) → slice_get (front ++ x ∷ back) (length front) ≡ Some x
at_seam [] x back = refl
at_seam (y ∷ front) x back = at_seam front x back

-- a list by the element at a place
pub record IsSeam {X : Type 0} (xs : List X) (n : ℕ) (x : X) : Type 0 where
  pub front : List X
  pub back : List X
  pub parts : xs ≡ front ++ x ∷ back
  pub size : length front ≡ n

pub seam : {X : Type 0} (xs : List X) (n : ℕ) (x : X) → slice_get xs n ≡ Some x → IsSeam xs n x
seam [] n x e = absurd (none-some x e)
seam (y ∷ xs) zero x e = record { front = []; back = xs; parts = ap (λ z. z ∷ xs) (same_Some y x e); size = refl }
seam (y ∷ xs) (suc n) x e =
    let s = seam xs n x e in
    record { front = y ∷ s.front; back = s.back; parts = ap (λ v. y ∷ v) s.parts; size = ap suc s.size }

pub get_behind : {X : Type 0} (front back : List X) (k : ℕ) → slice_get (front ++ back) (length front + k) ≡ slice_get back k
get_behind [] back k = ap (slice_get back) (let e : 0 + k ≡ k = omega arith in e)
get_behind (y ∷ front) back k = ap (slice_get (y ∷ (front ++ back))) (let e : suc (length front) + k ≡ suc (length front + k) = omega arith in e) ∙ get_behind front back k
