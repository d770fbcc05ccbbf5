-- The case of an enum that is read.
use Rattle.std.specs.Prelude.{◌≡◌, ℕ, List, Option, Some, codes, option_map}
use Rattle.holder_model_values.specs.RunValues.Layers.{CaseLayer}
use Rattle.holder_model_values.specs.RunValues.Leaves.{in_leaves, payload_value}
use Rattle.holder_model_values.specs.RunValues.Shapes.{Enum, FullCase, NoCase, PlainCase, Shape, shape_of}
use Rattle.holder_model_values.specs.RunValues.Values.{Value, val_of}
use Rattle.holder_model_values.specs.declared.run_values.leaf.Leaf.{Leaf}
use Rattle.holder_model_values.specs.declared.run_values.value.Val.{Val}
use Rattle.sil_ast.specs.declared.decl.Case.{Case}
use Rattle.sil_types_declarations.specs.TypeDefinitions.Declarations.{Declarations}

-- the shape of a case's payload, if it has one
abbrev pub case_layer_of : Declarations → Case → CaseLayer Shape
case_layer_of d c = record { name = c.name; payload = option_map (shape_of d) c.payload }

-- the shape of an Optional of this one
abbrev pub optional_of : Shape → Shape
optional_of s = Enum (codes "Optional") (PlainCase (codes "none") (FullCase (codes "some") s NoCase))

-- the value is in the case with this place, whose payload is of this shape, and its leaves behind the tag are these, if one has them
abbrev pub IsCaseOf : ℕ → Option Shape → List Leaf → Val → Type 0
IsCaseOf index payload ls v = (x : Value) → payload_value index (option_map in_leaves payload) ls ≡ Some x → v ≡ val_of x
