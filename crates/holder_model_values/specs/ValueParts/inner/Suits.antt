-- Whether a value suits a shape: it has the shape, and its references pass a test, also those that weak or unowned storage keeps.
use Rattle.std.specs.Prelude.{Bool, false, ◌&&◌, Option, Some, None}
use Rattle.sil_ast.specs.declared.place.ObjectId.{ObjectId}
use Rattle.sil_types_declarations.specs.numbered_form.Names.{Name}
use Rattle.holder_model_values.specs.RunValues.inner.Fits.{Test, are_members, fits_width, is_case, is_name}
use Rattle.holder_model_values.specs.RunValues.Layers.{Layer, Integer, Reference, Struct, Tuple, Enum, Stored, Unknown}
use Rattle.holder_model_values.specs.RunValues.Shapes.{Shape, by_layers}
use Rattle.holder_model_values.specs.RunValues.Values.{Value, case_of, integer_of, members_of, object_of}

-- whether an object may be named where a reference of this class is asked
abbrev pub ClassTest : Type 0
ClassTest = Name → ObjectId → Bool

abbrev pub names_one : (ObjectId → Bool) → Option ObjectId → Bool
names_one test None = false
names_one test (Some o) = test o

abbrev pub suits_layer : ClassTest → Layer Test → Test
suits_layer test (Integer width) v = fits_width width (integer_of v)
suits_layer test (Reference class) v = names_one (test class) (object_of v)
suits_layer test (Struct name fields) v = are_members fields (members_of v)
suits_layer test (Tuple elements) v = are_members elements (members_of v)
suits_layer test (Enum name cases) v = is_case cases (case_of v)
suits_layer test (Stored s inner) v = is_name s v && inner v
suits_layer test Unknown v = false

-- the value has the shape, and its references pass the test
abbrev pub suits : ClassTest → Shape → Value → Bool
suits test s v = by_layers (suits_layer test) s v
