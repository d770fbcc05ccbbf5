-- The holders of objects, counted afresh over the whole state. Each count is a total of weights, one for each time that an object stands there.
use Rattle.std.specs.Prelude.{ℕ, ◌+◌, ◌==◌, List, [], Bool, true, false, cond, map, sum}
use Rattle.sil_ast.specs.declared.decl.Storage.{Storage}
use Rattle.sil_ast.specs.declared.decl.Storage.TheVariants as storage
use Rattle.sil_ast.specs.declared.place.ObjectId.{ObjectId}
use Rattle.holder_model_values.specs.RunValues.Cells.{Cell, Gone, Empty, Keeps}
use Rattle.holder_model_values.specs.RunValues.Memory.{Memory, Object, is_dead_phase}
use Rattle.holder_model_values.specs.RunValues.Values.{references_of}

abbrev pub same_storage : Storage → Storage → Bool
same_storage storage.Strong storage.Strong = true
same_storage storage.Strong storage.Weak = false
same_storage storage.Strong storage.Unowned = false
same_storage storage.Weak storage.Strong = false
same_storage storage.Weak storage.Weak = true
same_storage storage.Weak storage.Unowned = false
same_storage storage.Unowned storage.Strong = false
same_storage storage.Unowned storage.Weak = false
same_storage storage.Unowned storage.Unowned = true

-- the references that a cell keeps in this way
abbrev pub kept_references : Storage → Cell → List ObjectId
kept_references s Gone = []
kept_references s Empty = []
kept_references s (Keeps how x) = cond (same_storage s how) (references_of x) []

-- the weight of one object alone is 1
abbrev pub one_object : ObjectId → ObjectId → ℕ
one_object o other = cond (o.0 == other.0) 1 0

module _ (weight : ObjectId → ℕ) where
  abbrev pub of_references : List ObjectId → ℕ
  of_references os = sum (map weight os)

  abbrev pub in_cell : Storage → Cell → ℕ
  in_cell s c = of_references (kept_references s c)

  abbrev pub in_cells : Storage → List Cell → ℕ
  in_cells s cells = sum (map (in_cell s) cells)

  -- a dead object holds nothing
  abbrev pub in_object : Storage → Object → ℕ
  in_object s x = cond (is_dead_phase x.phase) 0 (in_cells s x.cells)

  -- what slots and fields hold, strongly or in weak or unowned storage
  abbrev pub in_memory : Storage → Memory → ℕ
  in_memory s m = in_cells s m.stack + sum (map (in_object s) m.objects)

-- the numbers of weak and of unowned places that name the object
abbrev pub weak_holders : Memory → ObjectId → ℕ
weak_holders m o = in_memory (one_object o) storage.Weak m

abbrev pub unowned_holders : Memory → ObjectId → ℕ
unowned_holders m o = in_memory (one_object o) storage.Unowned m
