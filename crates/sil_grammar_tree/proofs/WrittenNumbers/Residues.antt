-- What `literal_from` gives in each part of the number line, for `literal` and its laws.
-- A half and a modulus stand for the powers of two, so that no proof has to look into a power.
use Rattle.std.proofs.Common.{◌≡◌, ℕ, zero, suc, ◌^◌, ◌+◌, ◌-◌, ◌<◌, ◌≤◌, ◌%◌, ◌&&◌, if◌then◌else◌, sym, ◌∙◌, arith, ℤ, pos, negsuc, neg_ℤ, ◌≤ℤ◌, ◌<ℤ◌, ◌-ℤ◌, Some, None}
use Rattle.std.specs.Prelude.{Option, int_lt, int_le, FitsSigned}
use Rattle.std.specs.Int.{int_rem_euclid, int_min, int_max, w64, w128}
use Rattle.std.proofs.Math.Nat.{mod-eq_of_lt, pow-suc, pow-le-pow_right, one-le-pow}
use Rattle.std.proofs.lemmas.Int.{ints, clamps, by_lt_z}
use lib.Signed.{mag}
use Rattle.std.proofs.lemmas.Bool.Decides.{nat_tests}

abbrev pub residue_by : ℕ → ℕ → ℤ → ℤ
residue_by half modulus value = let rest = int_rem_euclid value (pos modulus) in if int_lt rest (pos half) then rest else rest -ℤ pos modulus

abbrev pub literal_by : ℕ → ℕ → ℤ → Option ℤ
literal_by half modulus value = if int_le (neg_ℤ (pos half)) value && int_lt value (pos modulus) then Some (residue_by half modulus value) else None

no_literal : (half m : ℕ) (v r : ℤ) → literal_by half m v ≡ Some r → literal_by half m v ≡ None → ⊥
no_literal half m v r is not = let e = sym is ∙ not in cc e

same_literal : (half m : ℕ) (v q r : ℤ) → literal_by half m v ≡ Some r → literal_by half m v ≡ Some q → q ≡ r
same_literal half m v q r is as_q = let e = sym as_q ∙ is in cc e

pub literal_by-small : (half m : ℕ) (v : ℤ) → 0 < half → m ≡ half + half → neg_ℤ (pos half) ≤ℤ v → v <ℤ pos half → literal_by half m v ≡ Some v
literal_by-small zero m v some double low high = absurd (omega arith)
literal_by-small (suc h) m (pos n) some double low high =
    let below : n < suc h = omega (arith, ints) in
    let within : n < m = omega arith in
    let same : n % m ≡ n = mod-eq_of_lt within in
    rw same (grind (arith, nat_tests))
literal_by-small (suc h) m (negsuc n) some double low high =
    let below : n ≤ h = omega (arith, ints) in
    let within : n < m = omega arith in
    let same : n % m ≡ n = mod-eq_of_lt within in
    let back : pos (m - 1 - n) -ℤ pos m ≡ negsuc n = omega (arith, ints) in
    rw same (grind (arith, nat_tests))

pub literal_by-large : (half m : ℕ) (v : ℤ) → 0 < half → m ≡ half + half → pos half ≤ℤ v → v <ℤ pos m → literal_by half m v ≡ Some (v -ℤ pos m)
literal_by-large zero m v some double low high = absurd (omega arith)
literal_by-large (suc h) m (pos n) some double low high =
    let above : suc h ≤ n = omega (arith, ints) in
    let within : n < m = omega (arith, ints) in
    let same : n % m ≡ n = mod-eq_of_lt within in
    rw same (grind (arith, nat_tests))
literal_by-large (suc h) m (negsuc n) some double low high = absurd (omega (arith, ints))

pub literal_by-too_low : (half m : ℕ) (v : ℤ) → 0 < half → v <ℤ neg_ℤ (pos half) → literal_by half m v ≡ None
literal_by-too_low zero m v some low = absurd (omega arith)
literal_by-too_low (suc h) m (pos n) some low = absurd (omega (arith, ints))
literal_by-too_low (suc h) m (negsuc n) some low =
    let below : h < n = omega (arith, ints) in
    grind (arith, nat_tests)

pub literal_by-too_high : (half m : ℕ) (v : ℤ) → 0 < half → pos m ≤ℤ v → literal_by half m v ≡ None
literal_by-too_high zero m v some high = absurd (omega arith)
literal_by-too_high (suc h) m (pos n) some high =
    let above : m ≤ n = omega (arith, ints) in
    grind (arith, nat_tests)
literal_by-too_high (suc h) m (negsuc n) some high = absurd (omega (arith, ints))

-- a literal is of the signed range
pub literal_is_signed : (half m : ℕ) (v r : ℤ) → 0 < half → m ≡ half + half → literal_by half m v ≡ Some r → (neg_ℤ (pos half) ≤ℤ r) × (r <ℤ pos half)
literal_is_signed half m v r some double is =
    by_lt_z v (neg_ℤ (pos half)) (λ low. absurd (no_literal half m v r is (literal_by-too_low half m v some low)))
    (λ low. by_lt_z v (pos half)
    (λ high. let e : v ≡ r = same_literal half m v v r is (literal_by-small half m v some double low high) in (omega (arith, ints), omega (arith, ints)))
    (λ middle. by_lt_z v (pos m)
    (λ high. let e : v -ℤ pos m ≡ r = same_literal half m v (v -ℤ pos m) r is (literal_by-large half m v some double middle high) in (omega (arith, ints), omega (arith, ints)))
    (λ high. absurd (no_literal half m v r is (literal_by-too_high half m v some high)))))

-- the powers of two that stand for the half and the modulus
pub half_some : (width : ℕ) → 0 < 2 ^ (width - 1)
half_some width = let two : 0 < 2 = omega arith in one-le-pow (width - 1) 2 two

pub half_doubled : (width : ℕ) → 1 ≤ width → 2 ^ width ≡ 2 ^ (width - 1) + 2 ^ (width - 1)
half_doubled zero h = absurd (omega arith)
half_doubled (suc k) h = let e : suc k - 1 ≡ k = omega arith in rw e (omega (arith, pow-suc 2 k))

pub half_small : (width : ℕ) → width ≤ 64 → 2 ^ (width - 1) ≤ 2 ^ 63
half_small width h = let two : 0 < 2 = omega arith in let e : width - 1 ≤ 63 = omega arith in pow-le-pow_right two e

pub mag_below : (half : ℕ) (z : ℤ) → neg_ℤ (pos half) ≤ℤ z → z <ℤ pos half → mag z < half
mag_below half (pos n) low high = omega (arith, ints)
mag_below half (negsuc n) low high = omega (arith, ints)

-- a capped value within the range is the value
pub uncapped : (v r : ℤ) (half : ℕ) → r ≡ int_max (neg_ℤ (pos (2 ^ 64))) (int_min v (pos (2 ^ 64))) → half ≤ 2 ^ 63
    → neg_ℤ (pos half) ≤ℤ r → r <ℤ pos (half + half) → r ≡ v
uncapped v r half is fits low high = omega (arith, ints, clamps)

-- the difference of a value past the half and the modulus, in both types that the program computes it in
pub rest_fits : (half : ℕ) (value modulus : ℤ) → modulus ≡ pos (half + half) → half ≤ 2 ^ 63 → pos half ≤ℤ value → value <ℤ modulus
    → FitsSigned w64 (value -ℤ modulus) × FitsSigned w128 (value -ℤ modulus)
rest_fits half value modulus is fits low high = (
  record { sfits = mag_below (2 ^ 63) (value -ℤ modulus) (omega (arith, ints)) (omega (arith, ints)) },
  record { sfits = mag_below (2 ^ 127) (value -ℤ modulus) (omega (arith, ints)) (omega (arith, ints)) },
)
