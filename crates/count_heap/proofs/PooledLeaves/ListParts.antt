-- A part of a list after a write elsewhere in it, or to it.
use Rattle.std.proofs.Common.{◌≡◌, ℕ, suc, ◌+◌, ◌-◌, ◌<◌, ◌≤◌, List, [], ◌∷◌, ◌++◌, length, take, drop, set, refl, sym, ap, ◌∙◌, arith, append_assoc, length-append, length-drop}
use Rattle.std.proofs.lemmas.List.{drop-append-le, drop-drop, drop-take, drop_at, length-take-le, set_split, take-append-drop, take-append-le, take-take, take_all, take_at}

module _ {X : Type 0} where
  -- these in place of those from a place on
  abbrev pub put : ℕ → List X → List X → List X
  put i ys xs = take i xs ++ (ys ++ drop (i + length ys) xs)

  pub length_put : (i : ℕ) (ys xs : List X) → i + length ys ≤ length xs → length (put i ys xs) ≡ length xs
  length_put i ys xs fits =
      omega (
        arith,
        length-append (take i xs) (ys ++ drop (i + length ys) xs),
        length-append ys (drop (i + length ys) xs),
        length-drop (i + length ys) xs,
        length-take-le i xs (let le : i ≤ length xs = omega arith in le),
      )

  -- a part in front of the place
  pub part_before : (f s i : ℕ) (ys xs : List X) → f + s ≤ i → i ≤ length xs → take s (drop f (put i ys xs)) ≡ take s (drop f xs)
  part_before f s i ys xs le within =
      let rest : List X = ys ++ drop (i + length ys) xs in
      let long : f + s ≤ length (take i xs) = omega (arith, length-take-le i xs within) in
      sym (drop-take f s (put i ys xs))
      ∙ ap (drop f) (take-append-le (f + s) (take i xs) (ys ++ drop (i + length ys) xs) long ∙ take-take (f + s) i xs le)
      ∙ drop-take f s xs

  -- what is behind those that were put
  pub behind_put : (f i : ℕ) (ys xs : List X) → i + length ys ≤ f → i ≤ length xs → drop f (put i ys xs) ≡ drop f xs
  behind_put f i ys xs le within =
      let n : ℕ = f - (i + length ys) in
      let place : i + length ys + (f - (i + length ys)) ≡ f = omega arith in
      let size : length (take i xs ++ ys) ≡ i + length ys = omega (arith, length-append (take i xs) ys, length-take-le i xs within) in
      ap (λ m. drop m (put i ys xs)) (sym place) ∙ sym (drop-drop (f - (i + length ys)) (i + length ys) (put i ys xs))
      ∙ ap (λ zs. drop (f - (i + length ys)) (drop (i + length ys) zs)) (sym (append_assoc (take i xs) ys (drop (i + length ys) xs)))
      ∙ ap (drop (f - (i + length ys))) (drop_at (take i xs ++ ys) (drop (i + length ys) xs) (i + length ys) size)
      ∙ drop-drop (f - (i + length ys)) (i + length ys) xs ∙ ap (λ m. drop m xs) place

  pub part_after : (f s i : ℕ) (ys xs : List X) → i + length ys ≤ f → i ≤ length xs → take s (drop f (put i ys xs)) ≡ take s (drop f xs)
  part_after f s i ys xs le within = ap (take s) (behind_put f i ys xs le within)

  -- in the front of a list
  front_put : (s from : ℕ) (ys ds : List X) → from + length ys ≤ s → s ≤ length ds → take s (put from ys ds) ≡ put from ys (take s ds)
  front_put s from ys ds le within =
      let size : length (take s ds) ≡ s = length-take-le s ds within in
      let tail : drop (from + length ys) (take s ds) ++ drop s ds ≡ drop (from + length ys) ds =
      sym (drop-append-le (from + length ys) (take s ds) (drop s ds) (omega arith)) ∙ ap (drop (from + length ys)) (take-append-drop s ds) in
      let whole : put from ys (take s ds) ++ drop s ds ≡ put from ys ds =
      append_assoc (take from (take s ds)) (ys ++ drop (from + length ys) (take s ds)) (drop s ds)
      ∙ ap (λ zs. take from (take s ds) ++ zs) (append_assoc ys (drop (from + length ys) (take s ds)) (drop s ds))
      ∙ ap (λ zs. take from (take s ds) ++ (ys ++ zs)) tail
      ∙ ap (λ zs. zs ++ (ys ++ drop (from + length ys) ds)) (take-take from s ds (omega arith)) in
      sym (ap (take s) whole) ∙ take_at (put from ys (take s ds)) (drop s ds) s (length_put from ys (take s ds) (omega arith) ∙ size)

  drop_put : (f from : ℕ) (ys xs : List X) → f + from ≤ length xs → drop f (put (f + from) ys xs) ≡ put from ys (drop f xs)
  drop_put f from ys xs within =
      let size : length (take (f + from) xs) ≡ f + from = length-take-le (f + from) xs within in
      let place : f + from + length ys ≡ f + (from + length ys) = omega arith in
      drop-append-le f (take (f + from) xs) (ys ++ drop (f + from + length ys) xs) (omega arith)
      ∙ ap (λ zs. zs ++ (ys ++ drop (f + from + length ys) xs)) (drop-take f from xs)
      ∙ ap (λ n. take from (drop f xs) ++ (ys ++ drop n xs)) place
      ∙ ap (λ zs. take from (drop f xs) ++ (ys ++ zs)) (sym (drop-drop (from + length ys) f xs))

  -- the part with the place in it
  pub part_inside : (f s from : ℕ) (ys xs : List X) → from + length ys ≤ s → f + s ≤ length xs → take s (drop f (put (f + from) ys xs)) ≡ put from ys (take s (drop f xs))
  part_inside f s from ys xs le within =
      ap (take s) (drop_put f from ys xs (omega arith)) ∙ front_put s from ys (drop f xs) le (omega (arith, length-drop f xs))

  -- ---- more behind

  pub part_of_longer : (f s : ℕ) (xs more : List X) → f + s ≤ length xs → take s (drop f (xs ++ more)) ≡ take s (drop f xs)
  part_of_longer f s xs more le =
      ap (take s) (drop-append-le f xs more (omega arith)) ∙ take-append-le s (drop f xs) more (omega (arith, length-drop f xs))

  pub new_part : (s : ℕ) (xs more : List X) → length more ≡ s → take s (drop (length xs) (xs ++ more)) ≡ more
  new_part s xs more size = ap (take s) (drop_at xs more (length xs) refl) ∙ take_all s more (omega arith)

  -- ---- one element

  pub set_is_put : (xs : List X) (i : ℕ) (y : X) → i < length xs → set xs i y ≡ put i (y ∷ []) xs
  set_is_put xs i y lt = set_split xs i y lt ∙ ap (λ n. take i xs ++ y ∷ drop n xs) (let e : suc i ≡ i + 1 = omega arith in e)
