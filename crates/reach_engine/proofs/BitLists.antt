use Rattle.std.proofs.Common.{◌≡◌, ◌≢◌, ℕ, ◌+◌, ◌-◌, ◌*◌, ◌/◌, ◌%◌, ◌^◌, ◌<◌, ◌≤◌, List, length, get_or, set, max, sum}
use Rattle.std.proofs.Common.{bit_and, bit_or, refl, sym, ap, ap₂, ◌∙◌, arith, ◌⊎◌, inl, inr, w64, Bool, true, false}
use Rattle.std.proofs.lemmas.Bool.{cases_eq}
use Rattle.std.proofs.lemmas.List.{get_or-set_same, get_or-set_other, length-set, set-get_or}
use Rattle.std.proofs.lemmas.List.Sums.{sum_by-set}
use Rattle.std.proofs.lemmas.Nat.{le_or_l}
use Rattle.std.proofs.lemmas.Nat.Bits.{bit_at_set_same, bit_at_set_other, bit_at_clear_same, bit_at_clear_other, bit_at_or}
use Rattle.std.specs.Int.{bit_at}
use Rattle.reach_engine.specs.inner.Bits.{bit_in}

pub word_in : (words : List ℕ) (k : ℕ) → k < 64 * length words → k / 64 < length words
word_in words k h = omega arith

-- a word written at bit k's place
pub bit_in_set : (words : List ℕ) (k x : ℕ) → k < 64 * length words → bit_in (set words (k / 64) x) k ≡ bit_at x (k % 64)
bit_in_set words k x h = ap (λ n. bit_at n (k % 64)) (get_or-set_same words (k / 64) x 0 (word_in words k h))

pub bit_in_set_other : (words : List ℕ) (k j x : ℕ) → k < 64 * length words → j ≢ k → ((i : ℕ) → i < 64 → i ≢ k % 64 → bit_at x i ≡ bit_at (get_or words (k / 64) 0) i) →
    bit_in (set words (k / 64) x) j ≡ bit_in words j
bit_in_set_other words k j x h ne same = at (cases_eq (j / 64) (k / 64))
  where
    at : (j / 64 ≡ k / 64) ⊎ (j / 64 ≢ k / 64) → bit_in (set words (k / 64) x) j ≡ bit_in words j
    at (inl e) =
        let apart : j % 64 ≢ k % 64 = omega arith in
        let small : j % 64 < 64 = omega arith in
        ap (λ n. bit_at (get_or (set words (k / 64) x) n 0) (j % 64)) e ∙ ap (λ n. bit_at n (j % 64)) (get_or-set_same words (k / 64) x 0 (word_in words k h)) ∙ same (j % 64) small apart
        ∙ ap (λ n. bit_at (get_or words n 0) (j % 64)) (sym e)
    at (inr n) = ap (λ y. bit_at y (j % 64)) (get_or-set_other words (k / 64) (j / 64) x 0 n)

below_64 : (k : ℕ) → k % 64 < 64
below_64 k = omega arith

pub bit_set_same : (words : List ℕ) (k : ℕ) → k < 64 * length words → bit_in (set words (k / 64) (bit_or (get_or words (k / 64) 0) (1 * 2 ^ (k % 64) % 2 ^ 64))) k ≡ 1
bit_set_same words k h = bit_in_set words k _ h ∙ bit_at_set_same w64 (get_or words (k / 64) 0) (k % 64) (below_64 k)

pub bit_set_others : (words : List ℕ) (k j : ℕ) → k < 64 * length words → j ≢ k → bit_in (set words (k / 64) (bit_or (get_or words (k / 64) 0) (1 * 2 ^ (k % 64) % 2 ^ 64))) j ≡ bit_in words j
bit_set_others words k j h ne = bit_in_set_other words k j _ h ne (λ i lt n. bit_at_set_other w64 (get_or words (k / 64) 0) (k % 64) (below_64 k) i n)

pub bit_clear_same : (words : List ℕ) (k : ℕ) → k < 64 * length words → bit_in (set words (k / 64) (bit_and (get_or words (k / 64) 0) (2 ^ 64 - 1 - 1 * 2 ^ (k % 64) % 2 ^ 64))) k ≡ 0
bit_clear_same words k h = bit_in_set words k _ h ∙ bit_at_clear_same w64 (get_or words (k / 64) 0) (k % 64) (below_64 k)

pub bit_clear_others : (words : List ℕ) (k j : ℕ) → k < 64 * length words → j ≢ k
    → bit_in (set words (k / 64) (bit_and (get_or words (k / 64) 0) (2 ^ 64 - 1 - 1 * 2 ^ (k % 64) % 2 ^ 64))) j ≡ bit_in words j
bit_clear_others words k j h ne = bit_in_set_other words k j _ h ne (λ i lt n. bit_at_clear_other w64 (get_or words (k / 64) 0) (k % 64) (below_64 k) i lt n)

-- what is kept while words are merged
pub record Merging (first rows bundle : List ℕ) (offset i : ℕ) (is_new : Bool) : Type 0 where
  pub size : length rows ≡ length first
  pub done : (j : ℕ) → j < i → get_or rows (offset + j) 0 ≡ bit_or (get_or first (offset + j) 0) (get_or bundle j 0)
  pub below : (j : ℕ) → j < offset → get_or rows j 0 ≡ get_or first j 0
  pub above : (j : ℕ) → offset + i ≤ j → get_or rows j 0 ≡ get_or first j 0
  pub none : is_new ≡ false → rows ≡ first
  pub some : is_new ≡ true → sum first < sum rows

sum_le : (first rows bundle : List ℕ) (offset i : ℕ) (b : Bool) → Merging first rows bundle offset i b → sum first ≤ sum rows
sum_le first rows bundle offset i false h = let e : sum rows ≡ sum first = ap sum (h.none refl) in omega arith
sum_le first rows bundle offset i true h = let e : sum first < sum rows = h.some refl in omega arith

pub merge_more : (first rows bundle : List ℕ) (offset i word : ℕ) (b c : Bool) → Merging first rows bundle offset i b → offset + i < length rows →
    word ≡ bit_or (get_or rows (offset + i) 0) (get_or bundle i 0) →
    ((word ≢ get_or rows (offset + i) 0) × (c ≡ true)) ⊎ ((word ≡ get_or rows (offset + i) 0) × (c ≡ b)) →
    Merging first (set rows (offset + i) word) bundle offset (i + 1) c
merge_more first rows bundle offset i word b c h lt word_is branch = record {
  size = length-set rows (offset + i) word ∙ h.size;
  done = λ j l. done_at j l (cases_eq j i);
  below = λ j l. let n : j ≢ offset + i = omega arith in get_or-set_other rows (offset + i) j word 0 n ∙ h.below j l;
  above = λ j l. let n : j ≢ offset + i = omega arith in get_or-set_other rows (offset + i) j word 0 n ∙ h.above j (omega arith);
  none = λ e. none_at e branch;
  some = λ e. some_at e branch;
}
  where
    done_at : (j : ℕ) → j < i + 1 → (j ≡ i) ⊎ (j ≢ i) → get_or (set rows (offset + i) word) (offset + j) 0 ≡ bit_or (get_or first (offset + j) 0) (get_or bundle j 0)
    done_at j l (inl e) = ap (λ k. get_or (set rows (offset + i) word) (offset + k) 0) e ∙ get_or-set_same rows (offset + i) word 0 lt ∙ word_is
        ∙ ap (λ x. bit_or x (get_or bundle i 0)) (h.above (offset + i) (omega arith)) ∙ ap (λ k. bit_or (get_or first (offset + k) 0) (get_or bundle k 0)) (sym e)
    done_at j l (inr n) = let m : offset + j ≢ offset + i = omega arith in get_or-set_other rows (offset + i) (offset + j) word 0 m ∙ h.done j (omega arith)

    none_at : c ≡ false → ((word ≢ get_or rows (offset + i) 0) × (c ≡ true)) ⊎ ((word ≡ get_or rows (offset + i) 0) × (c ≡ b)) → set rows (offset + i) word ≡ first
    none_at e (inl p) = let t : c ≡ true = p.1 in absurd (cc)
    none_at e (inr p) = ap (set rows (offset + i)) p.0 ∙ set-get_or rows (offset + i) 0 ∙ h.none (sym p.1 ∙ e)

    some_at : c ≡ true → ((word ≢ get_or rows (offset + i) 0) × (c ≡ true)) ⊎ ((word ≡ get_or rows (offset + i) 0) × (c ≡ b)) → sum first < sum (set rows (offset + i) word)
    some_at e (inl p) =
        let le : sum first ≤ sum rows = sum_le first rows bundle offset i b h in
        let more : get_or rows (offset + i) 0 ≤ bit_or (get_or rows (offset + i) 0) (get_or bundle i 0) = le_or_l (get_or rows (offset + i) 0) (get_or bundle i 0) in
        let ne : word ≢ get_or rows (offset + i) 0 = p.0 in
        let total : sum (set rows (offset + i) word) + get_or rows (offset + i) 0 ≡ sum rows + word = sum_by-set (λ x. x) rows (offset + i) word 0 lt in
        omega arith
    some_at e (inr p) =
        let lt : sum first < sum rows = h.some (sym p.1 ∙ e) in
        let same : sum (set rows (offset + i) word) ≡ sum rows = ap sum (ap (set rows (offset + i)) p.0 ∙ set-get_or rows (offset + i) 0) in
        omega arith

-- all words merged, bit by bit
pub merged_inside : (first rows bundle : List ℕ) (offset i : ℕ) (b : Bool) → Merging first rows bundle offset i b → length bundle ≤ i → (k : ℕ) → k < 64 * length bundle →
    bit_in rows (64 * offset + k) ≡ max (bit_in first (64 * offset + k)) (bit_in bundle k)
merged_inside first rows bundle offset i b h le k lt =
    let place : (64 * offset + k) / 64 ≡ offset + k / 64 = omega arith in
    let bit : (64 * offset + k) % 64 ≡ k % 64 = omega arith in
    ap₂ (λ n m. bit_at (get_or rows n 0) m) place bit ∙ ap (λ x. bit_at x (k % 64)) (h.done (k / 64) (omega arith)) ∙ bit_at_or (get_or first (offset + k / 64) 0) (get_or bundle (k / 64) 0) (k % 64)
    ∙ ap₂ (λ n m. max (bit_at (get_or first n 0) m) (bit_in bundle k)) (sym place) (sym bit)
