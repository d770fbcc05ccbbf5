-- Bits in words of 64.
use Rattle.std.specs.Prelude.{ℕ, ◌/◌, ◌%◌, List, slice_index}
use Rattle.std.specs.Int.{bit_at}

-- bit k of the words, 64 to a word
abbrev pub bit_in : List ℕ → ℕ → ℕ
bit_in words k = bit_at (slice_index words (k / 64)) (k % 64)
