-- The numbers that spellings write. A spelling is an optional `-` and decimal digits; what is said of other bytes has no meaning.
use Rattle.std.specs.Prelude.{ℕ, ◌+◌, ◌-◌, ◌*◌, ◌^◌, List, Bool, ◌&&◌, Option, Some, None, ℤ, pos, negsuc}
use Rattle.std.specs.Prelude.{neg_ℤ, ◌-ℤ◌, int_le, int_lt, nat_le, fold, drop, if◌then◌else◌}
use Rattle.std.specs.Int.{int_rem_euclid}
use Rattle.std.specs.Str.Parse.{starts_with_minus}

-- ten times what the digits before write, and the next digit. 48 is `0`
abbrev pub next_number : ℕ → ℕ → ℕ
next_number number digit = number * 10 + (digit - 48)

-- the number that decimal digits write
abbrev pub number_of : List ℕ → ℕ
number_of digits = fold next_number 0 digits

-- the number that a spelling writes
abbrev pub value_of : List ℕ → ℤ
value_of spelling = if starts_with_minus spelling then neg_ℤ (pos (number_of (drop 1 spelling))) else pos (number_of spelling)

-- a literal is accepted from -2^(width - 1) to 2^width - 1
abbrev pub is_accepted : ℕ → ℤ → Bool
is_accepted width value = int_le (neg_ℤ (pos (2 ^ (width - 1)))) value && int_lt value (pos (2 ^ width))

-- the number from -2^(width - 1) to 2^(width - 1) - 1 that is the value modulo 2^width
abbrev pub signed_residue : ℕ → ℤ → ℤ
signed_residue width value = let rest = int_rem_euclid value (pos (2 ^ width)) in
    if int_lt rest (pos (2 ^ (width - 1))) then rest else rest -ℤ pos (2 ^ width)

-- the literal that a value is for an integer of `width` bits: its signed residue, where it's accepted
abbrev pub literal_from : ℕ → ℤ → Option ℤ
literal_from width value = if is_accepted width value then Some (signed_residue width value) else None

-- the literal that a spelling writes
abbrev pub literal_of : ℕ → List ℕ → Option ℤ
literal_of width spelling = literal_from width (value_of spelling)

-- the value, where it's a number from 0 to the largest
abbrev pub up_to : ℕ → ℤ → Option ℕ
up_to largest (pos n) = if nat_le n largest then Some n else None
up_to largest (negsuc n) = None

-- the number from 0 to the largest that a spelling writes
abbrev pub small_of : ℕ → List ℕ → Option ℕ
small_of largest spelling = up_to largest (value_of spelling)
