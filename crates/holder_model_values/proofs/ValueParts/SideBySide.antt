-- The cells of a struct or tuple with members are those of its members side by side, and so are the leaves.
use Rattle.std.proofs.Common.{◌≡◌, ◌++◌, ℕ, List, [], ◌∷◌, Some, map, sum, refl, ap}
use Rattle.std.specs.Prelude.{slice_get}
use Rattle.holder_model_values.specs.RunValues.Cells.{Cell, cell_count, cells_each, cells_layer, in_cells, width_of}
use Rattle.holder_model_values.specs.RunValues.Leaves.{leaves_each, leaves_layer, leaves_of, size_of}
use Rattle.holder_model_values.specs.RunValues.Shapes.{Shape, Shapes, NoMember, Member, each_by_layers, listed, member_shapes}
use Rattle.holder_model_values.specs.RunValues.Shapes.{Integer, Reference, Struct, Tuple, Enum, Stored, Unknown}
use Rattle.holder_model_values.specs.RunValues.Values.{Value}
use Rattle.holder_model_values.specs.ValueParts.inner.Paths.{all_members, leaf_count}
use Rattle.holder_model_values.proofs.ValueParts.Frames.{rows}

-- cells

abbrev pub cells_of : Shape → Value → List Cell
cells_of s v = (in_cells s).cells v

each_cells : (ss : Shapes) (vs : List Value) → cells_each (each_by_layers cells_layer ss) vs ≡ rows cells_of (listed ss) vs
each_cells NoMember vs = refl
each_cells (Member s ss) [] = refl
each_cells (Member s ss) (v ∷ vs) = ap (λ cs. cells_of s v ++ cs) (each_cells ss vs)

pub cells_laid : (s t : Shape) (k : ℕ) (v : Value) → slice_get (member_shapes s) k ≡ Some t → cells_of s v ≡ rows cells_of (member_shapes s) (all_members v)
cells_laid (Integer width) t k v e = cc
cells_laid (Reference class) t k v e = cc
cells_laid (Struct name NoMember) t k v e = cc
cells_laid (Struct name (Member s ss)) t k v e = each_cells (Member s ss) (all_members v)
cells_laid (Tuple NoMember) t k v e = cc
cells_laid (Tuple (Member s ss)) t k v e = each_cells (Member s ss) (all_members v)
cells_laid (Enum name cases) t k v e = cc
cells_laid (Stored storage inner) t k v e = cc
cells_laid Unknown t k v e = cc

each_width : (ss : Shapes) → map width_of (each_by_layers cells_layer ss) ≡ map cell_count (listed ss)
each_width NoMember = refl
each_width (Member s ss) = ap (λ ns. cell_count s ∷ ns) (each_width ss)

pub cells_summed : (s t : Shape) (k : ℕ) → slice_get (member_shapes s) k ≡ Some t → cell_count s ≡ sum (map cell_count (member_shapes s))
cells_summed (Integer width) t k e = cc
cells_summed (Reference class) t k e = cc
cells_summed (Struct name NoMember) t k e = cc
cells_summed (Struct name (Member s ss)) t k e = ap sum (each_width (Member s ss))
cells_summed (Tuple NoMember) t k e = cc
cells_summed (Tuple (Member s ss)) t k e = ap sum (each_width (Member s ss))
cells_summed (Enum name cases) t k e = cc
cells_summed (Stored storage inner) t k e = cc
cells_summed Unknown t k e = cc

-- leaves

each_leaves : (ss : Shapes) (vs : List Value) → leaves_each (each_by_layers leaves_layer ss) vs ≡ rows leaves_of (listed ss) vs
each_leaves NoMember vs = refl
each_leaves (Member s ss) [] = refl
each_leaves (Member s ss) (v ∷ vs) = ap (λ ls. leaves_of s v ++ ls) (each_leaves ss vs)

pub leaves_laid : (s t : Shape) (k : ℕ) (v : Value) → slice_get (member_shapes s) k ≡ Some t → leaves_of s v ≡ rows leaves_of (member_shapes s) (all_members v)
leaves_laid (Integer width) t k v e = cc
leaves_laid (Reference class) t k v e = cc
leaves_laid (Struct name fields) t k v e = each_leaves fields (all_members v)
leaves_laid (Tuple elements) t k v e = each_leaves elements (all_members v)
leaves_laid (Enum name cases) t k v e = cc
leaves_laid (Stored storage inner) t k v e = cc
leaves_laid Unknown t k v e = cc

each_size : (ss : Shapes) → map size_of (each_by_layers leaves_layer ss) ≡ map leaf_count (listed ss)
each_size NoMember = refl
each_size (Member s ss) = ap (λ ns. leaf_count s ∷ ns) (each_size ss)

pub leaves_summed : (s t : Shape) (k : ℕ) → slice_get (member_shapes s) k ≡ Some t → leaf_count s ≡ sum (map leaf_count (member_shapes s))
leaves_summed (Integer width) t k e = cc
leaves_summed (Reference class) t k e = cc
leaves_summed (Struct name fields) t k e = ap sum (each_size fields)
leaves_summed (Tuple elements) t k e = ap sum (each_size elements)
leaves_summed (Enum name cases) t k e = cc
leaves_summed (Stored storage inner) t k e = cc
leaves_summed Unknown t k e = cc
