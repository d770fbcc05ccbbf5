-- Facts on lists: what stands in them, what holds of each element, and how many pass a test.
use Rattle.std.proofs.Common.{◌≡◌, ℕ, zero, suc, ◌+◌, ◌≤◌, List, [], ◌∷◌, ◌++◌, length, map, replicate, refl, sym, ap, ap₂, ◌∙◌, subst, arith, cond, Bool, true}
use Rattle.std.proofs.Common.{false, Option, Some, None}
use Rattle.std.specs.Prelude.{is_some, option_map, slice_get, count_by, if◌then◌else◌}
use Rattle.std.specs.List.{AllZip, cons_option, filter_map, flat_map, range_with_len}
use Rattle.std.proofs.lemmas.List.Sums.{sum_by-append, sum_by-cons}
use Rattle.std.proofs.lemmas.Option.{slice_get-map}
use Rattle.numbered_form.specs.Lists.{Each}
use Rattle.numbered_form.proofs.Lists.{mapped_from}

-- ---- what holds of each

pub maps_same : {A B : Type 0} (f g : A → B) (xs : List A) → Each (λ x. f x ≡ g x) xs → map f xs ≡ map g xs
maps_same f g [] e = refl
maps_same f g (x ∷ xs) e = ap₂ (λ y ys. y ∷ ys) e.0 (maps_same f g xs e.1)

-- ---- what stands where

pub mapped_at : {A B : Type 0} (f : A → B) (xs : List A) (k : ℕ) (x : A) → slice_get xs k ≡ Some x → slice_get (map f xs) k ≡ Some (f x)
mapped_at f xs k x e = slice_get-map f xs k ∙ ap (option_map f) e

pub from_mapped : {A B : Type 0} (f : A → B) (xs : List A) (k : ℕ) (y : B) → slice_get (map f xs) k ≡ Some y → (x : A) × (slice_get xs k ≡ Some x) × (f x ≡ y)
from_mapped f xs k y e = mapped_from f (slice_get xs k) y (sym (slice_get-map f xs k) ∙ e)

pub get_behind : {A : Type 0} (xs ys : List A) (k n : ℕ) → length xs + k ≡ n → slice_get (xs ++ ys) n ≡ slice_get ys k
get_behind [] ys k n e = let same : n ≡ k = omega arith in ap (slice_get ys) same
get_behind (x ∷ xs) ys k zero e = absurd (omega arith)
get_behind (x ∷ xs) ys k (suc n) e = get_behind xs ys k n (omega arith)

-- the first of some lists together is the first of one of them
pub first_from : {A B : Type 0} (g : A → List B) (xs : List A) (y : B) → slice_get (flat_map g xs) 0 ≡ Some y
    → (k : ℕ) × (x : A) × (slice_get xs k ≡ Some x) × (slice_get (g x) 0 ≡ Some y)
first_from g [] y e = cc
first_from {A} {B} g (x ∷ xs) y e = at (g x) refl e (λ h. first_from g xs y h)
  where
    at : (ys : List B) → g x ≡ ys → slice_get (ys ++ flat_map g xs) 0 ≡ Some y
        → (slice_get (flat_map g xs) 0 ≡ Some y → (k : ℕ) × (z : A) × (slice_get xs k ≡ Some z) × (slice_get (g z) 0 ≡ Some y))
        → (k : ℕ) × (z : A) × (slice_get (x ∷ xs) k ≡ Some z) × (slice_get (g z) 0 ≡ Some y)
    at [] is e behind = let r = behind e in (suc r.0, r.1, r.2, r.3)
    at (z ∷ zs) is e behind = (0, x, refl, ap (λ l. slice_get l 0) is ∙ e)

-- some lists together have a first where one of them has
pub some_first : {A B : Type 0} (g : A → List B) (xs : List A) (k : ℕ) (x : A) → slice_get xs k ≡ Some x → is_some (slice_get (g x) 0) ≡ true
    → is_some (slice_get (flat_map g xs) 0) ≡ true
some_first g [] k x e some = cc
some_first {A} {B} g (y ∷ xs) zero x e some =
    let same : y ≡ x = cc in at (g y) (subst (λ z. is_some (slice_get (g z) 0) ≡ true) (sym same) some)
  where
    at : (zs : List B) → is_some (slice_get zs 0) ≡ true → is_some (slice_get (zs ++ flat_map g xs) 0) ≡ true
    at [] h = cc
    at (z ∷ zs) h = refl
some_first {A} {B} g (y ∷ xs) (suc k) x e some = at (g y) (some_first g xs k x e some)
  where
    at : (zs : List B) → is_some (slice_get (flat_map g xs) 0) ≡ true → is_some (slice_get (zs ++ flat_map g xs) 0) ≡ true
    at [] h = h
    at (z ∷ zs) h = refl

-- the first of those that are kept is made of an element
pub kept_first : {A B : Type 0} (g : A → Option B) (xs : List A) (y : B) → slice_get (filter_map g xs) 0 ≡ Some y
    → (k : ℕ) × (x : A) × (slice_get xs k ≡ Some x) × (g x ≡ Some y)
kept_first g [] y e = cc
kept_first {A} {B} g (x ∷ xs) y e = at (g x) refl e (λ h. kept_first g xs y h)
  where
    at : (o : Option B) → g x ≡ o → slice_get (cons_option o (filter_map g xs)) 0 ≡ Some y
        → (slice_get (filter_map g xs) 0 ≡ Some y → (k : ℕ) × (z : A) × (slice_get xs k ≡ Some z) × (g z ≡ Some y))
        → (k : ℕ) × (z : A) × (slice_get (x ∷ xs) k ≡ Some z) × (g z ≡ Some y)
    at None is e behind = let r = behind e in (suc r.0, r.1, r.2, r.3)
    at (Some z) is e behind = (0, x, refl, is ∙ e)

pub some_kept : {A B : Type 0} (g : A → Option B) (xs : List A) (k : ℕ) (x : A) → slice_get xs k ≡ Some x → is_some (g x) ≡ true
    → is_some (slice_get (filter_map g xs) 0) ≡ true
some_kept g [] k x e some = cc
some_kept {A} {B} g (y ∷ xs) zero x e some = let same : y ≡ x = cc in at (g y) (subst (λ z. is_some (g z) ≡ true) (sym same) some)
  where
    at : (o : Option B) → is_some o ≡ true → is_some (slice_get (cons_option o (filter_map g xs)) 0) ≡ true
    at None h = cc
    at (Some z) h = refl
some_kept {A} {B} g (y ∷ xs) (suc k) x e some = at (g y) (some_kept g xs k x e some)
  where
    at : (o : Option B) → is_some (slice_get (filter_map g xs) 0) ≡ true → is_some (slice_get (cons_option o (filter_map g xs)) 0) ≡ true
    at None h = h
    at (Some z) h = refl

pub where_true : {A : Type 0} (b : Bool) (o : Option A) (x : A) → (if b then o else None) ≡ Some x → (b ≡ true) × (o ≡ Some x)
where_true true o x e = (refl, e)
where_true false o x e = cc

-- ---- how many pass a test

abbrev one_if : Bool → ℕ
one_if b = cond b 1 0

module _ {A : Type 0} (test : A → Bool) where
  count-cons : (x : A) (xs : List A) → count_by test (x ∷ xs) ≡ one_if (test x) + count_by test xs
  count-cons x xs = sum_by-cons (λ z. cond (test z) 1 0) x xs

  counts_first : (y x : A) (xs : List A) → y ≡ x → test x ≡ true → count_by test (y ∷ xs) ≡ 1 + count_by test xs
  counts_first y x xs same t = count-cons y xs ∙ ap (λ z. one_if (test z) + count_by test xs) same ∙ ap (λ b. one_if b + count_by test xs) t

  counts_rest : (x : A) (xs : List A) → count_by test xs ≤ count_by test (x ∷ xs)
  counts_rest x xs = let sum = count-cons x xs in omega (arith, sum)

  pub counts_one : (xs : List A) (k : ℕ) (x : A) → slice_get xs k ≡ Some x → test x ≡ true → 1 ≤ count_by test xs
  counts_one [] k x e t = cc
  counts_one (y ∷ xs) zero x e t = let sum = counts_first y x xs (cc) t in omega (arith, sum)
  counts_one (y ∷ xs) (suc k) x e t =
      let rest : 1 ≤ count_by test xs = counts_one xs k x e t in
      let more = counts_rest y xs in
      omega (arith, rest, more)

  -- where no more than one passes, two that pass are one
  pub only_one : (xs : List A) (k l : ℕ) (x y : A) → count_by test xs ≤ 1 → slice_get xs k ≡ Some x → test x ≡ true → slice_get xs l ≡ Some y → test y ≡ true
      → x ≡ y
  only_one [] k l x y le e t g u = cc
  only_one (z ∷ xs) zero zero x y le e t g u = cc
  only_one (z ∷ xs) zero (suc l) x y le e t g u =
      let sum = counts_first z x xs (cc) t in
      let more : 1 ≤ count_by test xs = counts_one xs l y g u in
      absurd (omega (arith, sum, more, le))
  only_one (z ∷ xs) (suc k) zero x y le e t g u =
      let sum = counts_first z y xs (cc) u in
      let more : 1 ≤ count_by test xs = counts_one xs k x e t in
      absurd (omega (arith, sum, more, le))
  only_one (z ∷ xs) (suc k) (suc l) x y le e t g u =
      let more = counts_rest z xs in
      only_one xs k l x y (omega (arith, more, le)) e t g u

module _ {A B : Type 0} (g : A → List B) (test : B → Bool) where
  counts_within : (xs : List A) (k j : ℕ) (x : A) (u : B) → slice_get xs k ≡ Some x → slice_get (g x) j ≡ Some u → test u ≡ true
      → 1 ≤ count_by test (flat_map g xs)
  counts_within [] k j x u e i t = cc
  counts_within (y ∷ xs) zero j x u e i t =
      let same : y ≡ x = cc in
      let here : 1 ≤ count_by test (g y) = counts_one test (g y) j u (ap (λ z. slice_get (g z) j) same ∙ i) t in
      let sum : count_by test (flat_map g (y ∷ xs)) ≡ count_by test (g y) + count_by test (flat_map g xs) =
      sum_by-append (λ z. cond (test z) 1 0) (g y) (flat_map g xs) in
      omega arith
  counts_within (y ∷ xs) (suc k) j x u e i t =
      let rest : 1 ≤ count_by test (flat_map g xs) = counts_within xs k j x u e i t in
      let sum : count_by test (flat_map g (y ∷ xs)) ≡ count_by test (g y) + count_by test (flat_map g xs) =
      sum_by-append (λ z. cond (test z) 1 0) (g y) (flat_map g xs) in
      omega arith

  -- where of all lists together no more than one passes, two that pass are one, and of one list
  pub only_within : (xs : List A) (k l i j : ℕ) (x y : A) (u v : B) → count_by test (flat_map g xs) ≤ 1 → slice_get xs k ≡ Some x → slice_get (g x) i ≡ Some u
      → test u ≡ true
      → slice_get xs l ≡ Some y → slice_get (g y) j ≡ Some v → test v ≡ true → (x ≡ y) × (u ≡ v)
  only_within [] k l i j x y u v le e a t h b s = cc
  only_within (z ∷ xs) zero zero i j x y u v le e a t h b s =
      let one : z ≡ x = cc in
      let two : z ≡ y = cc in
      let sum : count_by test (flat_map g (z ∷ xs)) ≡ count_by test (g z) + count_by test (flat_map g xs) =
      sum_by-append (λ w. cond (test w) 1 0) (g z) (flat_map g xs) in
      (sym one ∙ two, only_one test (g z) i j u v (omega arith) (ap (λ w. slice_get (g w) i) one ∙ a) t (ap (λ w. slice_get (g w) j) two ∙ b) s)
  only_within (z ∷ xs) zero (suc l) i j x y u v le e a t h b s =
      let one : z ≡ x = cc in
      let here : 1 ≤ count_by test (g z) = counts_one test (g z) i u (ap (λ w. slice_get (g w) i) one ∙ a) t in
      let more : 1 ≤ count_by test (flat_map g xs) = counts_within xs l j y v h b s in
      let sum : count_by test (flat_map g (z ∷ xs)) ≡ count_by test (g z) + count_by test (flat_map g xs) =
      sum_by-append (λ w. cond (test w) 1 0) (g z) (flat_map g xs) in
      absurd (omega arith)
  only_within (z ∷ xs) (suc k) zero i j x y u v le e a t h b s =
      let two : z ≡ y = cc in
      let here : 1 ≤ count_by test (g z) = counts_one test (g z) j v (ap (λ w. slice_get (g w) j) two ∙ b) s in
      let more : 1 ≤ count_by test (flat_map g xs) = counts_within xs k i x u e a t in
      let sum : count_by test (flat_map g (z ∷ xs)) ≡ count_by test (g z) + count_by test (flat_map g xs) =
      sum_by-append (λ w. cond (test w) 1 0) (g z) (flat_map g xs) in
      absurd (omega arith)
  only_within (z ∷ xs) (suc k) (suc l) i j x y u v le e a t h b s =
      let sum : count_by test (flat_map g (z ∷ xs)) ≡ count_by test (g z) + count_by test (flat_map g xs) =
      sum_by-append (λ w. cond (test w) 1 0) (g z) (flat_map g xs) in
      only_within xs k l i j x y u v (omega arith) e a t h b s

-- ---- pair by pair

pub zip_append : {A B : Type 0} (R : A → B → Type 0) (xs zs : List A) (ys ws : List B) → AllZip R xs ys → AllZip R zs ws → AllZip R (xs ++ zs) (ys ++ ws)
zip_append R [] zs [] ws h k = k
zip_append R [] zs (y ∷ ys) ws h k = absurd h
zip_append R (x ∷ xs) zs [] ws h k = absurd h
zip_append R (x ∷ xs) zs (y ∷ ys) ws h k = (h.0, zip_append R xs zs ys ws h.1 k)

pub zip_maps : {X A B : Type 0} (R : A → B → Type 0) (f : X → A) (g : X → B) (xs : List X) → Each (λ x. R (f x) (g x)) xs → AllZip R (map f xs) (map g xs)
zip_maps R f g [] h = tt
zip_maps R f g (x ∷ xs) h = (h.0, zip_maps R f g xs h.1)

pub zip_flat : {X A B : Type 0} (R : A → B → Type 0) (f : X → List A) (g : X → List B) (xs : List X) → Each (λ x. AllZip R (f x) (g x)) xs
    → AllZip R (flat_map f xs) (flat_map g xs)
zip_flat R f g [] h = tt
zip_flat R f g (x ∷ xs) h = zip_append R (f x) (flat_map f xs) (g x) (flat_map g xs) h.0 (zip_flat R f g xs h.1)

pub zip_repeat : {A B : Type 0} (R : A → B → Type 0) (x : A) (of : ℕ → B) → ((k : ℕ) → R x (of k)) → (start n : ℕ)
    → AllZip R (replicate n x) (map of (range_with_len start n))
zip_repeat R x of h start zero = tt
zip_repeat R x of h start (suc n) = (h start, zip_repeat R x of h (start + 1) n)

pub zip_at : {A B : Type 0} (R : A → B → Type 0) (xs : List A) (ys : List B) (k : ℕ) (x : A) → AllZip R xs ys → slice_get xs k ≡ Some x
    → (y : B) × (slice_get ys k ≡ Some y) × R x y
zip_at R [] ys k x h e = cc
zip_at R (z ∷ xs) [] k x h e = absurd h
zip_at R (z ∷ xs) (y ∷ ys) zero x h e = let same : z ≡ x = cc in (y, refl, subst (λ w. R w y) same h.0)
zip_at R (z ∷ xs) (y ∷ ys) (suc k) x h e = zip_at R xs ys k x h.1 e
