-- A table of marks, one for each block and state.
use Rattle.std.specs.Prelude.{ℕ, ◌+◌, ◌*◌, List, Bool, false, slice_index_or}

-- a row of marks for each block, one for each state
pub record Table : Type 0 where
  pub blocks : ℕ
  pub states : ℕ
  pub seen : List Bool

abbrev pub table : ℕ → ℕ → List Bool → Table
table blocks states seen = record { blocks = blocks; states = states; seen = seen }

abbrev pub mark_at : List Bool → ℕ → ℕ → ℕ → Bool
mark_at seen states b s = slice_index_or seen (b * states + s) false

abbrev pub holds : Table → ℕ → ℕ → Bool
holds m b s = mark_at m.seen m.states b s
