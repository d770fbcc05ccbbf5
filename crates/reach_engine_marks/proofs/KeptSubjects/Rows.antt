-- Rows of bits behind one another.
use Rattle.std.proofs.Common.{◌≡◌, ℕ, zero, suc, ◌+◌, ◌*◌, ◌/◌, ◌%◌, ◌<◌, ◌≤◌, List, [], ◌∷◌, ◌++◌, length, length-append, get_or, take, refl, ap, ap₂, ◌∙◌, arith}
use Rattle.std.specs.Int.{bit_at}
use Rattle.reach_engine.specs.inner.Bits.{bit_in}
use Rattle.reach_engine.specs.inner.Columns.{cell}

get_left : (xs ys : List ℕ) (i : ℕ) → i < length xs → get_or (xs ++ ys) i 0 ≡ get_or xs i 0
get_left [] ys i lt = absurd (omega arith)
get_left (x ∷ xs) ys zero lt = refl
get_left (x ∷ xs) ys (suc i) lt = get_left xs ys i (omega arith)

get_right : (xs ys : List ℕ) (i j : ℕ) → j ≡ length xs + i → get_or (xs ++ ys) j 0 ≡ get_or ys i 0
get_right [] ys i j e = let same : j ≡ i = omega arith in ap (λ k. get_or ys k 0) same
get_right (x ∷ xs) ys i zero e = absurd (omega arith)
get_right (x ∷ xs) ys i (suc j) e = get_right xs ys i j (omega arith)

get_front : (xs : List ℕ) (n i : ℕ) → i < n → get_or (take n xs) i 0 ≡ get_or xs i 0
get_front xs zero i lt = absurd (omega arith)
get_front [] (suc n) i lt = refl
get_front (x ∷ xs) (suc n) zero lt = refl
get_front (x ∷ xs) (suc n) (suc i) lt = get_front xs n i (omega arith)

pub bit_left : (xs ys : List ℕ) (k : ℕ) → k < 64 * length xs → bit_in (xs ++ ys) k ≡ bit_in xs k
bit_left xs ys k lt = let within : k / 64 < length xs = omega arith in ap (λ w. bit_at w (k % 64)) (get_left xs ys (k / 64) within)

pub bit_right : (xs ys : List ℕ) (k j : ℕ) → j ≡ 64 * length xs + k → bit_in (xs ++ ys) j ≡ bit_in ys k
bit_right xs ys k j e =
    let word : j / 64 ≡ length xs + k / 64 = omega arith in
    let place : j % 64 ≡ k % 64 = omega arith in
    ap₂ (λ w i. bit_at w i) (get_right xs ys (k / 64) (j / 64) word) place

pub bit_front : (xs : List ℕ) (n k : ℕ) → k < 64 * n → bit_in (take n xs) k ≡ bit_in xs k
bit_front xs n k lt = let within : k / 64 < n = omega arith in ap (λ w. bit_at w (k % 64)) (get_front xs n (k / 64) within)

-- three rows of so many words
module _ (a b c : List ℕ) (width : ℕ) (one : length a ≡ width) (two : length b ≡ width) (three : length c ≡ width) where
  both : length (a ++ b) ≡ 2 * width
  both = omega (arith, length-append a b)

  pub first_row : (u : ℕ) → u < 64 * width → bit_in ((a ++ b) ++ c) (cell width 0 u) ≡ bit_in a u
  first_row u lt =
      let place : cell width 0 u ≡ u = grind arith in
      ap (bit_in ((a ++ b) ++ c)) place ∙ bit_left (a ++ b) c u (omega (arith, both)) ∙ bit_left a b u (omega arith)

  pub second_row : (u : ℕ) → u < 64 * width → bit_in ((a ++ b) ++ c) (cell width 1 u) ≡ bit_in b u
  second_row u lt =
      let place : cell width 1 u ≡ 64 * length a + u = omega arith in
      let within : cell width 1 u < 64 * length (a ++ b) = omega (arith, both) in
      bit_left (a ++ b) c (cell width 1 u) within ∙ bit_right a b u (cell width 1 u) place

  pub third_row : (u : ℕ) → u < 64 * width → bit_in ((a ++ b) ++ c) (cell width 2 u) ≡ bit_in c u
  third_row u lt =
      let place : cell width 2 u ≡ 64 * length (a ++ b) + u = omega (arith, both) in
      bit_right (a ++ b) c u (cell width 2 u) place

-- the three rows of a block, each cut to its first words
module _ (words off on broken : List ℕ) (wide width block states : ℕ) (few : width ≤ wide) (three : states ≡ 3) where
  abbrev IsRow : List ℕ → ℕ → Type 0
  IsRow row s = (u : ℕ) → u < 64 * wide → bit_in row u ≡ bit_in words (cell wide (block * states + s) u)

  cut_at : (row : List ℕ) (s u : ℕ) → IsRow row s → u < 64 * width → bit_in (take width row) u ≡ bit_in words (cell wide (block * 3 + s) u)
  cut_at row s u h lt =
      let within : u < 64 * wide = omega arith in
      bit_front row width u lt ∙ h u within ∙ ap (λ n. bit_in words (cell wide (block * n + s) u)) three

  module _ (one : length (take width off) ≡ width) (two : length (take width on) ≡ width) (last : length (take width broken) ≡ width) where
    pub rows_cut : IsRow off 0 → IsRow on 1 → IsRow broken 2 → (s u : ℕ) → s < 3 → u < 64 * width
        → bit_in ((take width off ++ take width on) ++ take width broken) (cell width s u) ≡ bit_in words (cell wide (block * 3 + s) u)
    rows_cut a b c zero u ls lt = first_row (take width off) (take width on) (take width broken) width one two last u lt ∙ cut_at off 0 u a lt
    rows_cut a b c (suc zero) u ls lt = second_row (take width off) (take width on) (take width broken) width one two last u lt ∙ cut_at on 1 u b lt
    rows_cut a b c (suc (suc zero)) u ls lt = third_row (take width off) (take width on) (take width broken) width one two last u lt ∙ cut_at broken 2 u c lt
    rows_cut a b c (suc (suc (suc s))) u ls lt = absurd (omega arith)
