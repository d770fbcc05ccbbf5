-- Lists of numbers are in one order.
use Rattle.std.proofs.Common.{◌≡◌, ◌≢◌, ℕ, ◌<◌, List, [], ◌∷◌, arith, refl, sym, ap, ◌⊎◌, inl, inr, ◌∙◌}
use Rattle.std.proofs.lemmas.Bool.{cases_eq}
use Rattle.sil_rules.specs.Order.{NotAfter}

pub not_after_refl : (xs : List ℕ) → NotAfter xs xs
not_after_refl [] = tt
not_after_refl (x ∷ xs) = inr (refl, not_after_refl xs)

pub not_after_trans : (xs ys zs : List ℕ) → NotAfter xs ys → NotAfter ys zs → NotAfter xs zs
not_after_trans [] ys zs a b = tt
not_after_trans (x ∷ xs) [] zs a b = elim a [ ]
not_after_trans (x ∷ xs) (y ∷ ys) [] a b = elim b [ ]
not_after_trans (x ∷ xs) (y ∷ ys) (z ∷ zs) (inl lt) (inl less) = inl (omega arith)
not_after_trans (x ∷ xs) (y ∷ ys) (z ∷ zs) (inl lt) (inr e) = inl (let same : y ≡ z = e.0 in omega arith)
not_after_trans (x ∷ xs) (y ∷ ys) (z ∷ zs) (inr e) (inl less) = inl (let same : x ≡ y = e.0 in omega arith)
not_after_trans (x ∷ xs) (y ∷ ys) (z ∷ zs) (inr e) (inr d) = inr (e.0 ∙ d.0, not_after_trans xs ys zs e.1 d.1)

-- of two numbers one is less, or they are the same
pub compared : (x y : ℕ) → ((x < y) ⊎ (y < x)) ⊎ (x ≡ y)
compared x y = at (cases_eq x y)
  where
    apart : (x y : ℕ) → x ≢ y → (x < y) ⊎ (y < x)
    apart x y n = grind arith

    at : (x ≡ y) ⊎ (x ≢ y) → ((x < y) ⊎ (y < x)) ⊎ (x ≡ y)
    at (inl e) = inr e
    at (inr n) = inl (apart x y n)

pub not_after_total : (xs ys : List ℕ) → NotAfter xs ys ⊎ NotAfter ys xs
not_after_total [] ys = inl tt
not_after_total (x ∷ xs) [] = inr tt
not_after_total (x ∷ xs) (y ∷ ys) = at (compared x y) (not_after_total xs ys)
  where
    at : ((x < y) ⊎ (y < x)) ⊎ (x ≡ y) → NotAfter xs ys ⊎ NotAfter ys xs → NotAfter (x ∷ xs) (y ∷ ys) ⊎ NotAfter (y ∷ ys) (x ∷ xs)
    at (inl (inl lt)) more = inl (inl lt)
    at (inl (inr gt)) more = inr (inl gt)
    at (inr e) (inl more) = inl (inr (e, more))
    at (inr e) (inr more) = inr (inr (sym e, more))

pub not_after_antisym : (xs ys : List ℕ) → NotAfter xs ys → NotAfter ys xs → xs ≡ ys
not_after_antisym [] [] a b = refl
not_after_antisym [] (y ∷ ys) a b = elim b [ ]
not_after_antisym (x ∷ xs) [] a b = elim a [ ]
not_after_antisym (x ∷ xs) (y ∷ ys) (inl lt) (inl gt) = absurd (omega arith)
not_after_antisym (x ∷ xs) (y ∷ ys) (inl lt) (inr e) = absurd (let same : y ≡ x = e.0 in omega arith)
not_after_antisym (x ∷ xs) (y ∷ ys) (inr e) (inl gt) = absurd (let same : x ≡ y = e.0 in omega arith)
not_after_antisym (x ∷ xs) (y ∷ ys) (inr e) (inr d) = ap (λ n. n ∷ xs) e.0 ∙ ap (λ l. y ∷ l) (not_after_antisym xs ys e.1 d.1)
