-- Lists that are the same up to a place, and lists with others laid over them.
use Rattle.std.proofs.Common.{◌≡◌, ◌≢◌, ◌≤◌, ◌<◌, ◌+◌, ◌-◌, ◌++◌, ◌⊎◌, inl, inr, ℕ, zero, suc, List, Option, None, Some, map, [], ◌∷◌, length, take, drop, refl, sym, ap, ◌∙◌, append_assoc, arith}
use Rattle.std.specs.Prelude.{option_map, set, slice_get, unwrap_or}
use Rattle.std.proofs.lemmas.List.{drop-drop, drop-take, drop_at, get_or-set_other, get_or-set_same, get_or-take, length-append, length-drop, length-take-le}
use Rattle.std.proofs.lemmas.List.{take-append-le, take-take, take_all, take_at}
use Rattle.std.proofs.lemmas.Option.{none-some, same_Some, slice_get-map, unwrap_or-slice_get}
use Rattle.count_machine_model.specs.MachineSteps.Operands.{laid_over}

module _ {A : Type 0} where
  -- elements by their places

  pub there_below : (xs : List A) (i : ℕ) → i < length xs → (x : A) × (slice_get xs i ≡ Some x)
  there_below [] i lt = absurd (omega (arith, lt))
  there_below (x ∷ xs) zero lt = (x, refl)
  there_below (x ∷ xs) (suc i) lt = there_below xs i (omega (arith, lt))

  pub at_taken : (xs ys : List A) (n i : ℕ) (d : A) → take n xs ≡ take n ys → i < n → unwrap_or (slice_get xs i) d ≡ unwrap_or (slice_get ys i) d
  at_taken xs ys n i d same lt =
      unwrap_or-slice_get xs i d ∙ sym (get_or-take n xs i d lt) ∙ ap (λ zs. Rattle.std.specs.Prelude.slice_index_or zs i d) same ∙ get_or-take n ys i d lt ∙ sym (unwrap_or-slice_get ys i d)

  pub at_set : (xs : List A) (i : ℕ) (x d : A) → i < length xs → unwrap_or (slice_get (set xs i x) i) d ≡ x
  at_set xs i x d lt = unwrap_or-slice_get (set xs i x) i d ∙ get_or-set_same xs i x d lt

  pub at_others : (xs : List A) (i j : ℕ) (x d : A) → j ≢ i → unwrap_or (slice_get (set xs i x) j) d ≡ unwrap_or (slice_get xs j) d
  at_others xs i j x d ne = unwrap_or-slice_get (set xs i x) j d ∙ get_or-set_other xs i j x d ne ∙ sym (unwrap_or-slice_get xs j d)

  pub get_set : (xs : List A) (i : ℕ) (x : A) → i < length xs → slice_get (set xs i x) i ≡ Some x
  get_set [] i x lt = absurd (omega (arith, lt))
  get_set (y ∷ xs) zero x lt = refl
  get_set (y ∷ xs) (suc i) x lt = get_set xs i x (omega (arith, lt))

  pub get_others : (xs : List A) (i j : ℕ) (x : A) → j ≢ i → slice_get (set xs i x) j ≡ slice_get xs j
  get_others [] i j x ne = refl
  get_others (y ∷ xs) zero zero x ne = absurd (ne refl)
  get_others (y ∷ xs) zero (suc j) x ne = refl
  get_others (y ∷ xs) (suc i) zero x ne = refl
  get_others (y ∷ xs) (suc i) (suc j) x ne = get_others xs i j x (λ e. ne (ap suc e))

  pub get_take : (xs : List A) (n i : ℕ) → i < n → slice_get (take n xs) i ≡ slice_get xs i
  get_take [] zero i lt = refl
  get_take [] (suc n) i lt = refl
  get_take (x ∷ xs) zero i lt = absurd (omega (arith, lt))
  get_take (x ∷ xs) (suc n) zero lt = refl
  get_take (x ∷ xs) (suc n) (suc i) lt = get_take xs n i (omega (arith, lt))

  pub get_drop : (xs : List A) (n i : ℕ) → slice_get (drop n xs) i ≡ slice_get xs (n + i)
  get_drop xs zero i = let at : i ≡ 0 + i = omega arith in ap (slice_get xs) at
  get_drop [] (suc n) i = refl
  get_drop (x ∷ xs) (suc n) i = let at : suc (n + i) ≡ suc n + i = omega arith in get_drop xs n i ∙ ap (slice_get (x ∷ xs)) at

  -- parts of lists that are the same up to a place

  pub taken_less : (xs ys : List A) (m n : ℕ) → m ≤ n → take n xs ≡ take n ys → take m xs ≡ take m ys
  taken_less xs ys m n le same = sym (take-take m n xs le) ∙ ap (take m) same ∙ take-take m n ys le

  pub part_taken : (xs ys : List A) (n i k : ℕ) → take n xs ≡ take n ys → i + k ≤ n → take k (drop i xs) ≡ take k (drop i ys)
  part_taken xs ys n i k same le = sym (drop-take i k xs) ∙ ap (drop i) (taken_less xs ys (i + k) n le same) ∙ drop-take i k ys

  -- a list that is laid over another one, within it

  pub laid : (from : ℕ) (new old : List A) → from + length new ≤ length old → laid_over from new old ≡ take from old ++ (new ++ drop (from + length new) old)
  laid from new old le =
      ap (λ ls. take from old ++ ls ++ drop (from + length new) old) (take_all (length old - from) new (omega (arith, le)))
      ∙ append_assoc (take from old) new (drop (from + length new) old)

  pub laid_length : (from : ℕ) (new old : List A) → from + length new ≤ length old → length (laid_over from new old) ≡ length old
  laid_length from new old le =
      ap length (laid from new old le) ∙ length-append (take from old) (new ++ drop (from + length new) old)
      ∙ omega (arith, le, length-append new (drop (from + length new) old), length-drop (from + length new) old, length-take-le from old (omega (arith, le)))

  pub laid_take : (from : ℕ) (new old : List A) → from + length new ≤ length old → (n : ℕ) → n ≤ from → take n (laid_over from new old) ≡ take n old
  laid_take from new old le n below =
      let front : length (take from old) ≡ from = length-take-le from old (omega (arith, le)) in
      ap (take n) (laid from new old le) ∙ take-append-le n (take from old) (new ++ drop (from + length new) old) (omega (arith, below, front)) ∙ take-take n from old below

  pub laid_there : (from : ℕ) (new old : List A) → from + length new ≤ length old → take (length new) (drop from (laid_over from new old)) ≡ new
  laid_there from new old le =
      ap (λ ls. take (length new) (drop from ls)) (laid from new old le)
      ∙ ap (take (length new)) (drop_at (take from old) (new ++ drop (from + length new) old) from (length-take-le from old (omega (arith, le))))
      ∙ take_at new (drop (from + length new) old) (length new) refl

  pub laid_before : (from : ℕ) (new old : List A) → from + length new ≤ length old → (i k : ℕ) → i + k ≤ from → take k (drop i (laid_over from new old)) ≡ take k (drop i old)
  laid_before from new old le i k below = part_taken (laid_over from new old) old from i k (laid_take from new old le from (omega arith)) below

  pub laid_behind : (from : ℕ) (new old : List A) → from + length new ≤ length old → (i : ℕ) → from + length new ≤ i → drop i (laid_over from new old) ≡ drop i old
  laid_behind from new old le i above =
      let front = take from old ++ new in
      let back = drop (from + length new) old in
      let count : length front ≡ from + length new = length-append (take from old) new ∙ ap (λ n. n + length new) (length-take-le from old (omega (arith, le))) in
      let split : (from + length new) + (i - (from + length new)) ≡ i = omega (arith, above) in
      let cut : (ls : List A) → drop i ls ≡ drop (i - (from + length new)) (drop (from + length new) ls) =
      λ ls. ap (λ n. drop n ls) (sym split) ∙ sym (drop-drop (i - (from + length new)) (from + length new) ls) in
      cut (laid_over from new old)
      ∙ ap (drop (i - (from + length new))) (ap (drop (from + length new)) (laid from new old le ∙ sym (append_assoc (take from old) new back)) ∙ drop_at front back (from + length new) count)
      ∙ sym (cut old)

  -- nothing laid over changes nothing but by its place
  pub laid_apart : (from : ℕ) (new old : List A) → from + length new ≤ length old → (i k : ℕ) → (i + k ≤ from) ⊎ (from + length new ≤ i) ⊎ (k ≡ 0)
      → take k (drop i (laid_over from new old)) ≡ take k (drop i old)
  laid_apart from new old le i k (inl below) = laid_before from new old le i k below
  laid_apart from new old le i k (inr (inl above)) = ap (take k) (laid_behind from new old le i above)
  laid_apart from new old le i k (inr (inr none)) = ap (λ n. take n (drop i (laid_over from new old))) none ∙ ap (λ n. take n (drop i old)) (sym none)

-- what a list's elements are told by

pub mapped_some : {A B : Type 0} (g : A → B) (o : Option A) (y : B) → option_map g o ≡ Some y → (x : A) × (o ≡ Some x) × (g x ≡ y)
mapped_some g None y e = absurd (none-some y e)
mapped_some g (Some x) y e = (x, refl, same_Some (g x) y e)

pub mapped_at : {A B : Type 0} (g : A → B) (xs ys : List A) (i : ℕ) (x : A) → map g ys ≡ map g xs → slice_get xs i ≡ Some x → (y : A) × (slice_get ys i ≡ Some y) × (g y ≡ g x)
mapped_at g xs ys i x same there =
    mapped_some g (slice_get ys i) (g x)
    (sym (slice_get-map g ys i) ∙ ap (λ zs. slice_get zs i) same ∙ slice_get-map g xs i ∙ ap (option_map g) there)
