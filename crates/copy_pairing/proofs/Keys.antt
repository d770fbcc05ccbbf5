-- Places in the text, in their order.
use Rattle.std.proofs.Common.{◌≡◌, ◌⊎◌, inl, inr, ℕ, ◌+◌, ◌<◌, ◌≤◌, List, [], ◌∷◌, arith}
use Rattle.std.proofs.lemmas.Bool.{cases_lt}
use Rattle.sil_rules.specs.Order.{NotAfter}

-- the number of a function, of a block and of an instruction
abbrev pub place : ℕ → ℕ → ℕ → List ℕ
place n b i = n ∷ b ∷ i ∷ []

first_index : (j : ℕ) → NotAfter (0 ∷ []) (j ∷ [])
first_index j = at (cases_lt 0 j)
  where
    at : (0 < j) ⊎ (j ≤ 0) → NotAfter (0 ∷ []) (j ∷ [])
    at (inl lt) = inl lt
    at (inr le) = inr (omega arith, tt)

first_block : (c j : ℕ) → NotAfter (0 ∷ 0 ∷ []) (c ∷ j ∷ [])
first_block c j = at (cases_lt 0 c)
  where
    at : (0 < c) ⊎ (c ≤ 0) → NotAfter (0 ∷ 0 ∷ []) (c ∷ j ∷ [])
    at (inl lt) = inl lt
    at (inr le) = inr (omega arith, first_index j)

pub first_place : (k c j : ℕ) → NotAfter (place 0 0 0) (place k c j)
first_place k c j = at (cases_lt 0 k)
  where
    at : (0 < k) ⊎ (k ≤ 0) → NotAfter (place 0 0 0) (place k c j)
    at (inl lt) = inl lt
    at (inr le) = inr (omega arith, first_block c j)

after_index : (i j : ℕ) → i < j → NotAfter ((i + 1) ∷ []) (j ∷ [])
after_index i j lt = at (cases_lt (i + 1) j)
  where
    at : (i + 1 < j) ⊎ (j ≤ i + 1) → NotAfter ((i + 1) ∷ []) (j ∷ [])
    at (inl less) = inl less
    at (inr le) = inr (omega arith, tt)

after_block : (b c j : ℕ) → b < c → NotAfter ((b + 1) ∷ 0 ∷ []) (c ∷ j ∷ [])
after_block b c j lt = at (cases_lt (b + 1) c)
  where
    at : (b + 1 < c) ⊎ (c ≤ b + 1) → NotAfter ((b + 1) ∷ 0 ∷ []) (c ∷ j ∷ [])
    at (inl less) = inl less
    at (inr le) = inr (omega arith, first_index j)

after_function : (n k c j : ℕ) → n < k → NotAfter (place (n + 1) 0 0) (place k c j)
after_function n k c j lt = at (cases_lt (n + 1) k)
  where
    at : (n + 1 < k) ⊎ (k ≤ n + 1) → NotAfter (place (n + 1) 0 0) (place k c j)
    at (inl less) = inl less
    at (inr le) = inr (omega arith, first_block c j)

-- a place that isn't before this one nor is it, isn't before the next index
pub next_index : (n b i k c j : ℕ) → NotAfter (place n b i) (place k c j) → (n ≡ k → b ≡ c → i ≡ j → ⊥) → NotAfter (place n b (i + 1)) (place k c j)
next_index n b i k c j (inl lt) other = inl lt
next_index n b i k c j (inr (e, inl lt)) other = inr (e, inl lt)
next_index n b i k c j (inr (e, inr (f, inl lt))) other = inr (e, inr (f, after_index i j lt))
next_index n b i k c j (inr (e, inr (f, inr (g, t)))) other = absurd (other e f g)

-- nor, where it has no place in this block from this index on, before the next block
pub next_block : (n b i k c j : ℕ) → NotAfter (place n b i) (place k c j) → (n ≡ k → b ≡ c → i ≤ j → ⊥) → NotAfter (place n (b + 1) 0) (place k c j)
next_block n b i k c j (inl lt) other = inl lt
next_block n b i k c j (inr (e, inl lt)) other = inr (e, after_block b c j lt)
next_block n b i k c j (inr (e, inr (f, inl lt))) other = absurd (other e f (omega arith))
next_block n b i k c j (inr (e, inr (f, inr (g, t)))) other = absurd (other e f (omega arith))

-- nor, where it has no place in this function from this block on, before the next function
pub next_function : (n b k c j : ℕ) → NotAfter (place n b 0) (place k c j) → (n ≡ k → b ≤ c → ⊥) → NotAfter (place (n + 1) 0 0) (place k c j)
next_function n b k c j (inl lt) other = after_function n k c j lt
next_function n b k c j (inr (e, inl lt)) other = absurd (other e (omega arith))
next_function n b k c j (inr (e, inr (f, rest))) other = absurd (other e (omega arith))

-- a place behind this one isn't before the next index
pub behind : (n b i k c j : ℕ) → (NotAfter (place k c j) (place n b i) → ⊥) → NotAfter (place n b (i + 1)) (place k c j)
behind n b i k c j not = at (cases_lt n k) (cases_lt k n)
  where
    in_block : n ≡ k → b ≡ c → (i < j) ⊎ (j ≤ i) → (j < i) ⊎ (i ≤ j) → NotAfter (place n b (i + 1)) (place k c j)
    in_block e f (inl lt) h = inr (e, inr (f, after_index i j lt))
    in_block e f (inr le) (inl lt) = absurd (not (inr (omega arith, inr (omega arith, inl lt))))
    in_block e f (inr le) (inr ge) = absurd (not (inr (omega arith, inr (omega arith, inr (omega arith, tt)))))

    in_function : n ≡ k → (b < c) ⊎ (c ≤ b) → (c < b) ⊎ (b ≤ c) → NotAfter (place n b (i + 1)) (place k c j)
    in_function e (inl lt) h = inr (e, inl lt)
    in_function e (inr le) (inl lt) = absurd (not (inr (omega arith, inl lt)))
    in_function e (inr le) (inr ge) = in_block e (omega arith) (cases_lt i j) (cases_lt j i)

    at : (n < k) ⊎ (k ≤ n) → (k < n) ⊎ (n ≤ k) → NotAfter (place n b (i + 1)) (place k c j)
    at (inl lt) h = inl lt
    at (inr le) (inl lt) = absurd (not (inl lt))
    at (inr le) (inr ge) = in_function (omega arith) (cases_lt b c) (cases_lt c b)
