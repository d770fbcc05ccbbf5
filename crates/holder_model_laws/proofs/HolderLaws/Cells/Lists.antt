-- Cells of lists, by their numbers.
use Rattle.std.proofs.Common.{◌≡◌, ◌<◌, ◌≤◌, ◌+◌, ◌++◌, ◌⊎◌, ⊎_elim, inl, inr, ℕ, zero, suc, List, [], ◌∷◌, length, take, drop, replicate, set, slice_get, Some, refl, ap, ◌∙◌, arith}
use Rattle.std.specs.List.{list_all}
use Rattle.std.specs.Prelude.{Bool, true}
use Rattle.std.proofs.lemmas.Bool.{and_from}
use Rattle.std.proofs.lemmas.Option.{none-some}
use Rattle.holder_model.specs.holder_model_values.RunValues.Cells.{Cell}
use Rattle.holder_model.specs.holder_model_values.RunValues.Memory.{put_cells}

pub get_take : {A : Type 0} (n : ℕ) (xs : List A) (k : ℕ) → k < n → slice_get (take n xs) k ≡ slice_get xs k
get_take zero xs k lt = absurd (omega arith)
get_take (suc n) [] k lt = refl
get_take (suc n) (x ∷ xs) zero lt = refl
get_take (suc n) (x ∷ xs) (suc k) lt = get_take n xs k (omega arith)

pub get_drop : {A : Type 0} (n : ℕ) (xs : List A) (k : ℕ) → slice_get (drop n xs) k ≡ slice_get xs (n + k)
get_drop zero xs k = let at : k ≡ 0 + k = omega arith in ap (slice_get xs) at
get_drop (suc n) [] k = refl
get_drop (suc n) (x ∷ xs) k = let at : suc (n + k) ≡ suc n + k = omega arith in get_drop n xs k ∙ ap (slice_get (x ∷ xs)) at

pub get_left : {A : Type 0} (xs ys : List A) (k : ℕ) → k < length xs → slice_get (xs ++ ys) k ≡ slice_get xs k
get_left [] ys k lt = absurd (omega arith)
get_left (x ∷ xs) ys zero lt = refl
get_left (x ∷ xs) ys (suc k) lt = get_left xs ys k (omega arith)

pub get_right : {A : Type 0} (xs ys : List A) (k : ℕ) → slice_get (xs ++ ys) (length xs + k) ≡ slice_get ys k
get_right [] ys k = let at : 0 + k ≡ k = omega arith in ap (slice_get ys) at
get_right (x ∷ xs) ys k = let at : suc (length xs) + k ≡ suc (length xs + k) = omega arith in ap (slice_get (x ∷ (xs ++ ys))) at ∙ get_right xs ys k

pub get_replicate : {A : Type 0} (n : ℕ) (x : A) (k : ℕ) → k < n → slice_get (replicate n x) k ≡ Some x
get_replicate zero x k lt = absurd (omega arith)
get_replicate (suc n) x zero lt = refl
get_replicate (suc n) x (suc k) lt = get_replicate n x k (omega arith)

pub get_set_other : {A : Type 0} (xs : List A) (i : ℕ) (x : A) (k : ℕ) → (k ≡ i → ⊥) → slice_get (set xs i x) k ≡ slice_get xs k
get_set_other [] i x k other = refl
get_set_other (y ∷ xs) zero x zero other = absurd (other refl)
get_set_other (y ∷ xs) zero x (suc k) other = refl
get_set_other (y ∷ xs) (suc i) x zero other = refl
get_set_other (y ∷ xs) (suc i) x (suc k) other = get_set_other xs i x k (λ e. other (ap suc e))

pub get_set_same : {A : Type 0} (xs : List A) (i : ℕ) (x : A) → i < length xs → slice_get (set xs i x) i ≡ Some x
get_set_same [] i x lt = absurd (omega arith)
get_set_same (y ∷ xs) zero x lt = refl
get_set_same (y ∷ xs) (suc i) x lt = get_set_same xs i x (omega arith)

-- ---- cells that are put

pub put_out : (cells : List Cell) (i : ℕ) (new : List Cell) (n : ℕ) → (n < i) ⊎ (i + length new ≤ n) → slice_get (put_cells cells i new) n ≡ slice_get cells n
put_out cells zero [] n h = refl
put_out cells (suc i) [] n h = refl
put_out [] zero (c ∷ cs) n h = refl
put_out [] (suc i) (c ∷ cs) n h = refl
put_out (old ∷ cells) zero (c ∷ cs) zero h = absurd (⊎_elim (λ a. omega arith) (λ a. omega arith) h)
put_out (old ∷ cells) zero (c ∷ cs) (suc n) h = put_out cells zero cs n (inr (⊎_elim (λ a. omega arith) (λ a. omega arith) h))
put_out (old ∷ cells) (suc i) (c ∷ cs) zero h = refl
put_out (old ∷ cells) (suc i) (c ∷ cs) (suc n) h = put_out cells i (c ∷ cs) n (⊎_elim (λ a. inl (omega arith)) (λ a. inr (omega arith)) h)

pub put_in : (cells : List Cell) (i : ℕ) (new : List Cell) (k : ℕ) → k < length new → i + length new ≤ length cells
    → slice_get (put_cells cells i new) (i + k) ≡ slice_get new k
put_in cells i [] k lt le = absurd (omega arith)
put_in [] i (c ∷ cs) k lt le = absurd (omega arith)
put_in (old ∷ cells) zero (c ∷ cs) zero lt le = refl
put_in (old ∷ cells) zero (c ∷ cs) (suc k) lt le =
    let at : zero + suc k ≡ suc (zero + k) = omega arith in
    ap (slice_get (c ∷ put_cells cells zero cs)) at ∙ put_in cells zero cs k (omega arith) (omega arith)
put_in (old ∷ cells) (suc i) (c ∷ cs) k lt le =
    let at : suc i + k ≡ suc (i + k) = omega arith in
    ap (slice_get (old ∷ put_cells cells i (c ∷ cs))) at ∙ put_in cells i (c ∷ cs) k lt (omega arith)

-- ---- all of a list

pub all_from : {A : Type 0} (p : A → Bool) (xs : List A) → ((k : ℕ) (x : A) → slice_get xs k ≡ Some x → p x ≡ true) → list_all p xs ≡ true
all_from p [] h = refl
all_from p (x ∷ xs) h = and_from (p x) (list_all p xs) (h 0 x refl) (all_from p xs (λ k y e. h (suc k) y e))

pub element : {A : Type 0} (xs : List A) (k : ℕ) → k < length xs → (x : A) × (slice_get xs k ≡ Some x)
element [] k lt = absurd (omega arith)
element (x ∷ xs) zero lt = (x, refl)
element (x ∷ xs) (suc k) lt = element xs k (omega arith)

pub taken_early : {A : Type 0} (n : ℕ) (xs : List A) (k : ℕ) (x : A) → slice_get (take n xs) k ≡ Some x → k < n
taken_early zero xs k x e = absurd (none-some x e)
taken_early (suc n) [] k x e = absurd (none-some x e)
taken_early (suc n) (y ∷ xs) zero x e = omega arith
taken_early (suc n) (y ∷ xs) (suc k) x e = omega (arith, taken_early n xs k x e)
