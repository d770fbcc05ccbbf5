-- Whether a value has a shape.
use Rattle.std.specs.Prelude.{ℕ, ℤ, List, [], ◌∷◌, Bool, true, false, ◌&&◌, ◌==◌, cond, Option, Some, None, is_some, is_none}
use Rattle.std.specs.Prelude.{option_and_then, option_map, slice_get, unwrap_or}
use Rattle.sil_ast.specs.declared.decl.Storage.{Storage}
use Rattle.sil_ast.specs.declared.decl.Storage.TheVariants as storage
use Rattle.sil_types_declarations.specs.numbered_form.inner.Literals.{is_residue}
use Rattle.holder_model_values.specs.RunValues.Layers.{CaseLayer, Layer, Integer, Reference, Struct, Tuple, Enum, Stored, Unknown}
use Rattle.holder_model_values.specs.RunValues.Shapes.{Shape, by_layers}
use Rattle.holder_model_values.specs.RunValues.Values.{ChosenCase, Value, case_of, integer_of, members_of, object_of}

abbrev pub Test : Type 0
Test = Value → Bool

abbrev pub passes : Test → Option Value → Bool
passes test None = false
passes test (Some v) = test v

abbrev pub fit_each : List Test → List Value → Bool
fit_each [] [] = true
fit_each [] (v ∷ vs) = false
fit_each (test ∷ tests) [] = false
fit_each (test ∷ tests) (v ∷ vs) = test v && fit_each tests vs

abbrev pub are_members : List Test → Option (List Value) → Bool
are_members tests None = false
are_members tests (Some vs) = fit_each tests vs

-- a case has a payload just where its declaration has one
abbrev pub fits_payload : Option Test → Option Value → Bool
fits_payload None None = true
fits_payload None (Some v) = false
fits_payload (Some test) v = passes test v

abbrev pub fits_case : Option (CaseLayer Test) → Option Value → Bool
fits_case None payload = false
fits_case (Some c) payload = fits_payload c.payload payload

abbrev pub is_case : List (CaseLayer Test) → Option ChosenCase → Bool
is_case cases None = false
is_case cases (Some c) = fits_case (slice_get cases c.index) c.payload

abbrev pub fits_width : ℕ → Option ℤ → Bool
fits_width width None = false
fits_width width (Some n) = is_residue width n

-- what weak storage keeps: `none`, or a reference in `some`
abbrev pub is_weak_name : ChosenCase → Bool
is_weak_name c = cond (c.index == 0) (is_none c.payload) (c.index == 1 && is_some (option_and_then object_of c.payload))

abbrev pub is_name : Storage → Value → Bool
is_name storage.Strong v = false
is_name storage.Weak v = unwrap_or (option_map is_weak_name (case_of v)) false
is_name storage.Unowned v = is_some (object_of v)

-- a reference fits every class
abbrev pub fits_layer : Layer Test → Test
fits_layer (Integer width) v = fits_width width (integer_of v)
fits_layer (Reference class) v = is_some (object_of v)
fits_layer (Struct name fields) v = are_members fields (members_of v)
fits_layer (Tuple elements) v = are_members elements (members_of v)
fits_layer (Enum name cases) v = is_case cases (case_of v)
fits_layer (Stored s inner) v = is_name s v
fits_layer Unknown v = false

-- the value has the shape
abbrev pub fits : Shape → Value → Bool
fits s v = by_layers fits_layer s v
