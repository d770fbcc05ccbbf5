-- An index of parts: in which rows the number of a part is found.
use Rattle.std.specs.Prelude.{◌≡◌, ℕ, ◌+◌, ◌*◌, ◌%◌, List, All, Contains, slice_get, Option, Some, None}
use Rattle.std.specs.declared.alloc.Global.{Global}
use Rattle.std.specs.declared.vec.Vec.{Vec}
use Rattle.sil_ast.specs.declared.place.ValueId.{ValueId}
use Rattle.reach_engine_marks.specs.PathPatterns.inner.Reads.{accesses_at}
use Rattle.memory_rules_accesses.specs.declared.location.Cell.{Cell}
use Rattle.memory_rules_accesses.specs.declared.source.Source.{Source}
use Rattle.memory_rules_parts.specs.inner.Keys.{keys_of_part}
use Rattle.memory_rules_parts.specs.declared.key.Key.{Key}
use Rattle.memory_rules_parts.specs.declared.key.Key.TheVariants.{Turned, Named, Operated, Written}
use Rattle.memory_rules_parts.specs.declared.part.Part.{Part}

abbrev pub value_row : ValueId → ℕ
value_row v = v.0 % 1024

abbrev pub field_row : ℕ → Option ℕ → ℕ
field_row row None = row
field_row row (Some field) = (row + field % 1024) % 1024

abbrev pub cell_row : Cell → ℕ
cell_row cell = field_row (value_row cell.subject) cell.field

-- the row of a key
abbrev pub row_of : Key → ℕ
row_of (Turned v) = 4 * value_row v
row_of (Named v) = 4 * value_row v + 1
row_of (Operated cell) = 4 * cell_row cell + 2
row_of (Written v) = 4 * value_row v + 3

abbrev pub row_at : List (Vec ℕ Global) → Key → List ℕ
row_at rows key = accesses_at rows (row_of key)

-- the number is in the rows of these keys, and what was in a row before is in it still
pub record HasRows (old new : List (Vec ℕ Global)) (keys : List Key) (number : ℕ) : Type 0 where
  pub kept : (r n : ℕ) → Contains (accesses_at old r) n → Contains (accesses_at new r) n
  pub there : All (λ key. Contains (row_at new key) number) keys

-- each part's number is in the rows of all its keys
abbrev pub IsIndexOf : List Source → List Part → List (Vec ℕ Global) → Type 0
IsIndexOf sources parts rows = (n : ℕ) (p : Part) → slice_get parts n ≡ Some p → All (λ key. Contains (row_at rows key) n) (keys_of_part sources p)

-- these are all that the rows of the keys have
abbrev pub HasAll : List (Vec ℕ Global) → List Key → List ℕ → Type 0
HasAll rows keys numbers = (n : ℕ) → All (λ key. Contains (row_at rows key) n → Contains numbers n) keys
