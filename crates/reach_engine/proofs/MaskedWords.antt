-- Words that are merged under a mask, or set.
use Rattle.std.proofs.Common.{◌≡◌, ◌≢◌, ℕ, ◌+◌, ◌-◌, ◌*◌, ◌/◌, ◌%◌, ◌^◌, ◌<◌, ◌≤◌, List, length, get_or, set, min, max, bit_and, bit_or, refl, sym, ap, ap₂, ◌∙◌, arith, ◌⊎◌, inl, inr}
use Rattle.std.proofs.lemmas.Bool.{cases_eq}
use Rattle.std.proofs.lemmas.List.{get_or-set_same, get_or-set_other, length-set}
use Rattle.std.proofs.lemmas.Nat.Bits.{bit_at_or, bit_at_and, bit_at_ones}
use Rattle.std.specs.Int.{bit_at}
use Rattle.reach_engine.specs.inner.Bits.{bit_in}

-- the words from `offset` on are the new ones, up to the i-th, and the others stay
pub record Writing (first words : List ℕ) (offset i : ℕ) (new_at : ℕ → ℕ) : Type 0 where
  pub size : length words ≡ length first
  pub done : (j : ℕ) → j < i → get_or words (offset + j) 0 ≡ new_at j
  pub below : (j : ℕ) → j < offset → get_or words j 0 ≡ get_or first j 0
  pub above : (j : ℕ) → offset + i ≤ j → get_or words j 0 ≡ get_or first j 0

pub write_none : (first : List ℕ) (offset : ℕ) (new_at : ℕ → ℕ) → Writing first first offset 0 new_at
write_none first offset new_at = record { size = refl; done = λ j l. absurd (omega arith); below = λ j l. refl; above = λ j l. refl }

pub write_more : (first words : List ℕ) (offset i word : ℕ) (new_at : ℕ → ℕ) → Writing first words offset i new_at → offset + i < length words → word ≡ new_at i
    → Writing first (set words (offset + i) word) offset (i + 1) new_at
write_more first words offset i word new_at h lt word_is = record {
  size = length-set words (offset + i) word ∙ h.size;
  done = λ j l. done_at j l (cases_eq j i);
  below = λ j l. let n : j ≢ offset + i = omega arith in get_or-set_other words (offset + i) j word 0 n ∙ h.below j l;
  above = λ j l. let n : j ≢ offset + i = omega arith in get_or-set_other words (offset + i) j word 0 n ∙ h.above j (omega arith);
}
  where
    done_at : (j : ℕ) → j < i + 1 → (j ≡ i) ⊎ (j ≢ i) → get_or (set words (offset + i) word) (offset + j) 0 ≡ new_at j
    done_at j l (inl e) = ap (λ k. get_or (set words (offset + i) word) (offset + k) 0) e ∙ get_or-set_same words (offset + i) word 0 lt ∙ word_is ∙ ap new_at (sym e)
    done_at j l (inr n) = let m : offset + j ≢ offset + i = omega arith in get_or-set_other words (offset + i) (offset + j) word 0 m ∙ h.done j (omega arith)

-- a bit of a new word
pub written_bit : (first words : List ℕ) (offset i k : ℕ) (new_at : ℕ → ℕ) → Writing first words offset i new_at → k < 64 * i → bit_in words (64 * offset + k) ≡ bit_at (new_at (k / 64)) (k % 64)
written_bit first words offset i k new_at h lt =
    let place : (64 * offset + k) / 64 ≡ offset + k / 64 = omega arith in
    let bit : (64 * offset + k) % 64 ≡ k % 64 = omega arith in
    ap₂ (λ n m. bit_at (get_or words n 0) m) place bit ∙ ap (λ x. bit_at x (k % 64)) (h.done (k / 64) (omega arith))

pub bits_above : (first words : List ℕ) (offset i k : ℕ) (new_at : ℕ → ℕ) → Writing first words offset i new_at → 64 * (offset + i) ≤ k → bit_in words k ≡ bit_in first k
bits_above first words offset i k new_at h le = ap (λ x. bit_at x (k % 64)) (h.above (k / 64) (omega arith))

-- the word that a merge under a mask writes
abbrev pub masked_at : List ℕ → ℕ → List ℕ → List ℕ → ℕ → ℕ
masked_at first offset source mask j = bit_or (get_or first (offset + j) 0) (bit_and (get_or source j 0) (get_or mask j 0))

pub masked_bit : (first words source mask : List ℕ) (offset i k : ℕ) → Writing first words offset i (masked_at first offset source mask) → k < 64 * i →
    bit_in words (64 * offset + k) ≡ max (bit_in first (64 * offset + k)) (min (bit_in source k) (bit_in mask k))
masked_bit first words source mask offset i k h lt =
    let place : (64 * offset + k) / 64 ≡ offset + k / 64 = omega arith in
    let bit : (64 * offset + k) % 64 ≡ k % 64 = omega arith in
    written_bit first words offset i k (masked_at first offset source mask) h lt
    ∙ bit_at_or (get_or first (offset + k / 64) 0) (bit_and (get_or source (k / 64) 0) (get_or mask (k / 64) 0)) (k % 64)
    ∙ ap (λ x. max (bit_at (get_or first (offset + k / 64) 0) (k % 64)) x) (bit_at_and (get_or source (k / 64) 0) (get_or mask (k / 64) 0) (k % 64))
    ∙ ap₂ (λ n m. max (bit_at (get_or first n 0) m) (min (bit_in source k) (bit_in mask k))) (sym place) (sym bit)

abbrev pub all_ones : ℕ → ℕ
all_ones j = 2 ^ 64 - 1

pub ones_bit : (first words : List ℕ) (offset i k : ℕ) → Writing first words offset i all_ones → k < 64 * i → bit_in words (64 * offset + k) ≡ 1
ones_bit first words offset i k h lt = let small : k % 64 < 64 = omega arith in written_bit first words offset i k all_ones h lt ∙ bit_at_ones 64 (k % 64) small
