-- The longest run of bytes that pass a test at the front of a list.
use Rattle.std.proofs.Common.{◌≡◌, ℕ, ◌+◌, ◌<◌, Bool, true, false, cond, List, [], ◌∷◌, length, take, drop, refl, sym, ap, ◌∙◌, arith, one-add, ◌++◌, get_or, take-append-drop}
use Rattle.std.proofs.lemmas.Bool.{false≢true, true_from_ne_false, and_from}
use Rattle.std.proofs.lemmas.List.{drop_more}
use Rattle.std.specs.List.{prefix_len, list_all}
use Rattle.sil_lexer.specs.Spelling.{begins_with}

module _ (p : ℕ → Bool) where
  -- each byte of the run passes
  pub run_passes : (bytes : List ℕ) → list_all p (take (prefix_len p bytes) bytes) ≡ true
  run_passes [] = refl
  run_passes (b ∷ bytes) = by_test (run_passes bytes) (p b) refl where
    by_test : list_all p (take (prefix_len p bytes) bytes) ≡ true → (t : Bool) → p b ≡ t → list_all p (take (cond t (1 + prefix_len p bytes) 0) (b ∷ bytes)) ≡ true
    by_test more true passes = rw one-add (rw passes more)
    by_test more false _ = refl

  -- the byte behind it doesn't
  pub run_ends : (bytes : List ℕ) → begins_with p (drop (prefix_len p bytes) bytes) ≡ false
  run_ends [] = refl
  run_ends (b ∷ bytes) = by_test (run_ends bytes) (p b) refl where
    by_test : begins_with p (drop (prefix_len p bytes) bytes) ≡ false → (t : Bool) → p b ≡ t → begins_with p (drop (cond t (1 + prefix_len p bytes) 0) (b ∷ bytes)) ≡ false
    by_test more true _ = rw one-add more
    by_test more false fails = fails

  -- where there is none, the first byte fails
  pub run_none : (bytes : List ℕ) → prefix_len p bytes ≡ 0 → begins_with p bytes ≡ false
  run_none [] none = refl
  run_none (b ∷ bytes) none = by_test (p b) refl none where
    by_test : (t : Bool) → p b ≡ t → cond t (1 + prefix_len p bytes) 0 ≡ 0 → p b ≡ false
    by_test true _ none = absurd (omega arith)
    by_test false fails _ = fails

  -- and where the first byte passes, there is one
  pub run_some : (bytes : List ℕ) → begins_with p bytes ≡ true → 0 < prefix_len p bytes
  run_some [] first = absurd (false≢true first)
  run_some (b ∷ bytes) first = rw first (omega arith)

  -- a list whose first byte passes is not empty
  pub first_some : (bytes : List ℕ) → begins_with p bytes ≡ true → 0 < length bytes
  first_some [] first = absurd (false≢true first)
  first_some (b ∷ bytes) first = omega arith

  -- a run that is not empty has a first byte
  pub run_taken : (bytes : List ℕ) → 0 < prefix_len p bytes
      → (first : ℕ) × (more : List ℕ) × (take (prefix_len p bytes) bytes ≡ first ∷ more) × (list_all p (first ∷ more) ≡ true)
  run_taken [] some = absurd (omega arith)
  run_taken (b ∷ bytes) some =
      let first : begins_with p (b ∷ bytes) ≡ true = true_from_ne_false _ (λ fails. let none : cond (p b) (1 + prefix_len p bytes) 0 ≡ 0 = rw fails refl in absurd (omega arith)) in
      let taken : take (prefix_len p (b ∷ bytes)) (b ∷ bytes) ≡ b ∷ take (prefix_len p bytes) bytes = rw first (rw one-add refl) in
      (b, take (prefix_len p bytes) bytes, taken, and_from _ _ first (run_passes bytes))

-- a list is what stands before a byte, the byte, and what stands behind it
pub split_at : (bytes : List ℕ) (n : ℕ) → n < length bytes → take n bytes ++ get_or bytes n 0 ∷ drop (n + 1) bytes ≡ bytes
split_at bytes n inside = ap (λ bs. take n bytes ++ bs) (sym (drop_more bytes n 0 inside)) ∙ take-append-drop n bytes
