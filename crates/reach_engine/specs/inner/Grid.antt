-- What contracts see of a family's map.
use Rattle.std.specs.Prelude.{ℕ, List}

-- rows of words, one for each block and state
pub record Grid : Type 0 where
  pub blocks : ℕ
  pub states : ℕ
  pub width : ℕ
  pub words : List ℕ

abbrev pub grid : ℕ → ℕ → ℕ → List ℕ → Grid
grid blocks states width words = record { blocks = blocks; states = states; width = width; words = words }
