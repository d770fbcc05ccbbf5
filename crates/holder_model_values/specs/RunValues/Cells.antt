-- Cells: what slots and objects keep values in. A shape has at least one, so that a full place can be told from an empty one; an enum has one,
-- since no address names what is in it.
use Rattle.std.specs.Prelude.{ℕ, List, [], ◌∷◌, ◌++◌, Option, Some, None, map, option_map, unwrap_or, take, drop, sum}
use Rattle.sil_ast.specs.declared.decl.Storage.{Storage}
use Rattle.sil_ast.specs.declared.decl.Storage.TheVariants as storage
use Rattle.holder_model_values.specs.RunValues.Layers.{Layer, Integer, Reference, Struct, Tuple, Enum, Stored, Unknown}
use Rattle.holder_model_values.specs.RunValues.Shapes.{Shape, by_layers}
use Rattle.holder_model_values.specs.RunValues.Leaves.{with_more}
use Rattle.holder_model_values.specs.RunValues.Values.{Value, grouped, members_of}

-- a cell of a slot that was deallocated, an empty one, or one that keeps a value: strongly, or in weak or unowned storage
pub data Cell : Type 0 where
  Gone : Cell
  Empty : Cell
  Keeps : (storage : Storage) (x : Value) → Cell

-- how the values of a shape lie in cells: how many there are, those of a value, and the value that they keep where all are full
pub record InCells : Type 0 where
  pub width : ℕ
  pub cells : Value → List Cell
  pub value : List Cell → Option Value

abbrev pub width_of : InCells → ℕ
width_of t = t.width

abbrev pub kept : Cell → Option Value
kept Gone = None
kept Empty = None
kept (Keeps storage x) = Some x

abbrev pub kept_first : List Cell → Option Value
kept_first [] = None
kept_first (c ∷ cs) = kept c

abbrev pub one_cell : Storage → InCells
one_cell s = record { width = 1; cells = λ v. Keeps s v ∷ []; value = kept_first }

abbrev pub cells_each : List InCells → List Value → List Cell
cells_each [] vs = []
cells_each (t ∷ ts) [] = []
cells_each (t ∷ ts) (v ∷ vs) = t.cells v ++ cells_each ts vs

abbrev pub kept_each : List InCells → List Cell → Option (List Value)
kept_each [] cs = Some []
kept_each (t ∷ ts) cs = with_more (t.value (take t.width cs)) (kept_each ts (drop t.width cs))

abbrev pub by_members : List InCells → InCells
by_members ts = record {
  width = sum (map width_of ts);
  cells = λ v. cells_each ts (unwrap_or (members_of v) []);
  value = λ cs. option_map grouped (kept_each ts cs);
}

-- a struct or tuple without members has a cell of its own
abbrev pub of_members : List InCells → InCells
of_members [] = one_cell storage.Strong
of_members (t ∷ ts) = by_members (t ∷ ts)

abbrev pub cells_layer : Layer InCells → InCells
cells_layer (Integer width) = one_cell storage.Strong
cells_layer (Reference class) = one_cell storage.Strong
cells_layer (Struct name fields) = of_members fields
cells_layer (Tuple elements) = of_members elements
cells_layer (Enum name cases) = one_cell storage.Strong
cells_layer (Stored s inner) = one_cell s
cells_layer Unknown = one_cell storage.Strong

abbrev pub in_cells : Shape → InCells
in_cells s = by_layers cells_layer s

-- how many cells a shape has
abbrev pub cell_count : Shape → ℕ
cell_count s = (in_cells s).width
