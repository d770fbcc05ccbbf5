-- Facts on tests and lists.
use Rattle.std.proofs.Common.{◌≡◌, ℕ, zero, suc, ◌<◌, List, [], ◌∷◌, ◌++◌, length, map, refl, sym, subst, ap, ap₂, ◌∙◌, append_assoc, length-append, arith, Bool, true, false, Some}
use Rattle.std.specs.Prelude.{◌||◌, slice_get}
use Rattle.std.specs.List.{flat_map, range_with_len}
use Rattle.numbered_form.specs.Lists.{Each}

pub or_second : (a b : Bool) → a ≡ false → (a || b) ≡ true → b ≡ true
or_second true b f e = cc
or_second false b f e = e

-- what holds of each element

pub each_map : {A B : Type 0} (f : A → B) (P : A → Type 0) (Q : B → Type 0) → ((x : A) → P x → Q (f x)) → (xs : List A) → Each P xs → Each Q (map f xs)
each_map f P Q e [] h = tt
each_map f P Q e (x ∷ xs) h = (e x h.0, each_map f P Q e xs h.1)

pub each_parts : {A : Type 0} (P : A → Type 0) (xs ys : List A) → Each P (xs ++ ys) → Each P xs × Each P ys
each_parts P [] ys h = (tt, h)
each_parts P (x ∷ xs) ys h = let rest = each_parts P xs ys h.1 in ((h.0, rest.0), rest.1)

-- what holds of each of several lists together holds of each of one of them
pub each_within : {A B : Type 0} (f : A → List B) (P : B → Type 0) (xs : List A) (k : ℕ) (x : A) → Each P (flat_map f xs) → slice_get xs k ≡ Some x → Each P (f x)
each_within f P [] k x h e = cc
each_within f P (y ∷ ys) zero x h e = let same : y ≡ x = cc in subst (λ z. Each P (f z)) same (each_parts P (f y) (flat_map f ys) h).0
each_within f P (y ∷ ys) (suc k) x h e = each_within f P ys k x (each_parts P (f y) (flat_map f ys) h).1 e

-- what stands where

pub get_next : {A : Type 0} (before : List A) (x : A) (xs : List A) → slice_get (before ++ x ∷ xs) (length before) ≡ Some x
get_next [] x xs = refl
get_next (y ∷ ys) x xs = get_next ys x xs

pub get_last : {A : Type 0} (xs : List A) (x : A) → slice_get (xs ++ x ∷ []) (length xs) ≡ Some x
get_last xs x = get_next xs x []

-- the elements behind some, got one by one
pub slices : {A : Type 0} (before xs : List A) → map (slice_get (before ++ xs)) (range_with_len (length before) (length xs)) ≡ map (λ x. Some x) xs
slices before [] = refl
slices before (x ∷ xs) =
    ap₂ (λ y ys. y ∷ ys) (get_next before x xs)
    (ap₂ (λ l n. map (slice_get l) (range_with_len n (length xs))) (sym (append_assoc before (x ∷ []) xs)) (sym (length-append before (x ∷ [])))
    ∙ slices (before ++ x ∷ []) xs)

pub get_below : {A : Type 0} (xs : List A) (k : ℕ) → k < length xs → (x : A) × (slice_get xs k ≡ Some x)
get_below [] k lt = absurd (omega arith)
get_below (x ∷ xs) zero lt = (x, refl)
get_below (x ∷ xs) (suc k) lt = get_below xs k (omega arith)

pub maps_alike : {A B : Type 0} (f g : A → B) (xs : List A) → ((i : ℕ) (x : A) → slice_get xs i ≡ Some x → f x ≡ g x) → map f xs ≡ map g xs
maps_alike f g [] e = refl
maps_alike f g (x ∷ xs) e = ap₂ (λ y ys. y ∷ ys) (e 0 x refl) (maps_alike f g xs (λ i y at. e (suc i) y at))

pub map_twice : {A B C : Type 0} (g : B → C) (f : A → B) (xs : List A) → map g (map f xs) ≡ map (λ x. g (f x)) xs
map_twice g f [] = refl
map_twice g f (x ∷ xs) = ap (λ ys. g (f x) ∷ ys) (map_twice g f xs)
