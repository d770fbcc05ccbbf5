-- The shape that a run has of a function's value is the one in its form.
use Rattle.std.proofs.Common.{◌≡◌, ◌∙◌, [], None, Option, Some, refl, ap}
use Rattle.std.proofs.lemmas.Option.{slice_get-map}
use Rattle.std.specs.Prelude.{option_map, slice_get, unwrap_or}
use Rattle.count_machine_model.specs.holder_model.ModuleShapes.{function_shapes, shape_at, shapes_in, shapes_of, value_shape}
use Rattle.count_machine_model.specs.holder_model.RunTyping.Forms.{Form, OfFunction, OfNothing, OfPlace, OfValue, form_by, form_of, form_with}
use Rattle.holder_model_values.specs.RunValues.Shapes.{Shape, Unknown, shape_of}
use Rattle.sil_ast.specs.declared.function.Function.{Function}
use Rattle.sil_ast.specs.declared.module.Module.{Module}
use Rattle.sil_ast.specs.declared.place.FuncId.{FuncId}
use Rattle.sil_ast.specs.declared.place.ValueId.{ValueId}
use Rattle.sil_ast.specs.declared.type_name.TypeName.{TypeName}
use Rattle.sil_types.specs.Typing.Shapes.{target}
use Rattle.sil_types.specs.Typing.Values.{function_at, type_at, value_functions, value_types}
use Rattle.sil_types_declarations.specs.TypeDefinitions.Declarations.{Declarations, declarations_of}

pub same_value_form : (s t : Shape) → OfValue s ≡ OfValue t → s ≡ t
same_value_form s t e = cc

pub same_place_form : (s t : Shape) → OfPlace s ≡ OfPlace t → s ≡ t
same_place_form s t e = cc

-- of a value, or of what is at an address
abbrev pub shape_in_form : Form → Shape
shape_in_form (OfValue s) = s
shape_in_form (OfPlace s) = s
shape_in_form (OfFunction g) = Unknown
shape_in_form OfNothing = Unknown

by_target : (d : Declarations) (t : TypeName) (u : Option TypeName) → shape_of d (unwrap_or u t) ≡ shape_in_form (form_with d t u)
by_target d t None = refl
by_target d t (Some u) = refl

by_type : (d : Declarations) (t : Option TypeName) (g : Option FuncId) → value_shape d t ≡ shape_in_form (form_by d t g)
by_type d None None = refl
by_type d None (Some g) = refl
by_type d (Some t) g = by_target d t (target t)

shape_there : (d : Declarations) (t : Option (Option TypeName)) → unwrap_or (option_map (value_shape d) t) Unknown ≡ value_shape d (unwrap_or t None)
shape_there d None = refl
shape_there d (Some t) = refl

pub shape_told : (m : Module) (g : FuncId) (f : Function) → slice_get m.functions g.0 ≡ Some f → (v : ValueId)
    → shape_at (shapes_in (shapes_of m) g) v ≡ shape_in_form (form_of (declarations_of m) f v)
shape_told m g f there v =
    ap (λ o. shape_at (unwrap_or o []) v) (slice_get-map (function_shapes (declarations_of m)) m.functions g.0 ∙ ap (option_map (function_shapes (declarations_of m))) there)
    ∙ ap (λ o. unwrap_or o Unknown) (slice_get-map (value_shape (declarations_of m)) (value_types (declarations_of m) f) v.0)
    ∙ shape_there (declarations_of m) (slice_get (value_types (declarations_of m) f) v.0)
    ∙ by_type (declarations_of m) (type_at (value_types (declarations_of m) f) v.0) (function_at (value_functions f) v.0)
