-- A loop over a list that keeps what is made so far before what becomes of the rest.
use Rattle.std.proofs.Common.{◌≡◌, ℕ, ◌+◌, ◌<◌, ◌≤◌, List, [], ◌∷◌, ◌++◌, length, get_or, drop, sym, ap, ◌∙◌, append_assoc}
use Rattle.std.proofs.lemmas.List.{append-nil, drop_all, drop_more}

module _ {X A : Type 0} where
  -- one element more: the rest of a list that begins with it is what it becomes, before another rest
  pub drop_next : (rest further : List X → List A) (more : List A) (xs : List X) (k : ℕ) (x : X) (old new all : List A) → k < length xs → x ≡ get_or xs k x
      → ((ys : List X) → rest (x ∷ ys) ≡ more ++ further ys) → old ++ rest (drop k xs) ≡ all → new ≡ old ++ more → new ++ further (drop (k + 1) xs) ≡ all
  drop_next rest further more xs k x old new all lt is splits before added =
      ap (λ n. n ++ further (drop (k + 1) xs)) added
      ∙ append_assoc old more (further (drop (k + 1) xs))
      ∙ ap (λ r. old ++ r) (sym (splits (drop (k + 1) xs)))
      ∙ ap (λ ys. old ++ rest ys) (ap (λ y. y ∷ drop (k + 1) xs) is ∙ sym (drop_more xs k x lt))
      ∙ before

  -- no element is left
  pub drop_done : (rest : List X → List A) (xs : List X) (k : ℕ) (old all : List A) → length xs ≤ k → rest [] ≡ [] → old ++ rest (drop k xs) ≡ all → old ≡ all
  drop_done rest xs k old all le none before =
      sym (append-nil old) ∙ ap (λ r. old ++ r) (sym none) ∙ ap (λ ys. old ++ rest ys) (sym (drop_all k xs le)) ∙ before
