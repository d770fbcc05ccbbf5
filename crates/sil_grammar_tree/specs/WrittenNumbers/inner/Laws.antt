-- The laws of written numbers.
use Rattle.std.specs.Prelude.{◌≡◌, ℕ, ◌-◌, ◌^◌, ◌≤◌, ◌<◌, Some, ℤ, pos, neg_ℤ, ◌≤ℤ◌, ◌<ℤ◌}
use Rattle.std.specs.Fmt.{decimal, signed_decimal}
use Rattle.sil_grammar_tree.specs.WrittenNumbers.Numbers.{literal_of, small_of}

-- the number is from -2^(width - 1) to 2^(width - 1) - 1
abbrev pub IsSigned : ℕ → ℤ → Type 0
IsSigned width number = (neg_ℤ (pos (2 ^ (width - 1))) ≤ℤ number) × (number <ℤ pos (2 ^ (width - 1)))

-- a printed number of the signed range reads as itself
abbrev pub ReadsPrintedLiterals : Type 0
ReadsPrintedLiterals = (width : ℕ) (number : ℤ) → 1 ≤ width → width ≤ 64 → IsSigned width number →
    literal_of width (signed_decimal number) ≡ Some number

-- a printed number up to the largest reads as itself
abbrev pub ReadsPrintedNumbers : Type 0
ReadsPrintedNumbers = (largest number : ℕ) → largest < 2 ^ 16 → number ≤ largest → small_of largest (decimal number) ≡ Some number
