-- Lists of leaves.
use Rattle.std.specs.Prelude.{ℕ, ◌+◌, List, [], ◌∷◌, ◌++◌, take, drop, length}
use Rattle.std.specs.List.{flat_map}
use Rattle.sil_ast.specs.declared.place.ObjectId.{ObjectId}
use Rattle.holder_model_values.specs.declared.run_values.leaf.Leaf.{Leaf}
use Rattle.holder_model_values.specs.declared.run_values.leaf.Leaf.TheVariants.{Int, Object, Tag, Blank}
use Rattle.holder_model_values.specs.RunValues.Leaves.{leaves_of}
use Rattle.holder_model_values.specs.RunValues.Shapes.{Shape}
use Rattle.holder_model_values.specs.RunValues.Values.{Value}

abbrev pub object_in : Leaf → List ObjectId
object_in (Int n) = []
object_in (Object o) = o ∷ []
object_in (Tag k) = []
object_in Blank = []

-- the objects among leaves
abbrev pub objects_in : List Leaf → List ObjectId
objects_in ls = flat_map object_in ls

-- the list with these in place of those from a place on
abbrev pub spliced : {A : Type 0} → List A → ℕ → List A → List A
spliced xs i ys = take i xs ++ (ys ++ drop (i + length ys) xs)

-- the leaves of each value
abbrev pub leaf_lists : List Shape → List Value → List (List Leaf)
leaf_lists [] vs = []
leaf_lists (s ∷ ss) [] = []
leaf_lists (s ∷ ss) (v ∷ vs) = leaves_of s v ∷ leaf_lists ss vs
