-- The shape that a run has of a function's value is the one in its form.
use Rattle.std.proofs.Common.{◌≡◌, ◌∙◌, List, [], ◌∷◌, None, Option, Some, refl, sym, ap}
use Rattle.std.proofs.lemmas.Option.{slice_get-map}
use Rattle.std.specs.Prelude.{option_map, slice_get, unwrap_or}
use Rattle.holder_model_laws.specs.holder_model.RunTyping.Forms.{Form, OfFunction, OfNothing, OfPlace, OfValue, form_by, form_of, form_with, forms_of}
use Rattle.holder_model_laws.specs.sil_types.Typing.Shapes.{target}
use Rattle.holder_model_laws.specs.sil_types.Typing.Values.{function_at, type_at, value_functions, value_types}
use Rattle.holder_model_laws.specs.holder_model.Effects.{result_shape_of}
use Rattle.holder_model_laws.specs.holder_model.ModuleShapes.{function_shapes, shape_at, shapes_in, shapes_of, value_shape}
use Rattle.holder_model_values.specs.RunValues.Memory.{Memory}
use Rattle.holder_model_values.specs.RunValues.Shapes.{Shape, Unknown, shape_of}
use Rattle.sil_ast.specs.declared.function.Function.{Function}
use Rattle.sil_ast.specs.declared.inst.Inst.{Inst}
use Rattle.sil_ast.specs.declared.module.Module.{Module}
use Rattle.sil_ast.specs.declared.place.FuncId.{FuncId}
use Rattle.sil_ast.specs.declared.place.ValueId.{ValueId}
use Rattle.sil_ast.specs.declared.type_name.TypeName.{TypeName}
use Rattle.sil_types_declarations.specs.TypeDefinitions.Declarations.{Declarations, declarations_of}

-- of a value, or of what is at an address
abbrev pub shape_in : Form → Shape
shape_in (OfValue s) = s
shape_in (OfPlace s) = s
shape_in (OfFunction g) = Unknown
shape_in OfNothing = Unknown

by_target : (d : Declarations) (t : TypeName) (u : Option TypeName) → shape_of d (unwrap_or u t) ≡ shape_in (form_with d t u)
by_target d t None = refl
by_target d t (Some u) = refl

by_type : (d : Declarations) (t : Option TypeName) (g : Option FuncId) → value_shape d t ≡ shape_in (form_by d t g)
by_type d None None = refl
by_type d None (Some g) = refl
by_type d (Some t) g = by_target d t (target t)

shape_there : (d : Declarations) (t : Option (Option TypeName)) → unwrap_or (option_map (value_shape d) t) Unknown ≡ value_shape d (unwrap_or t None)
shape_there d None = refl
shape_there d (Some t) = refl

module _ (m : Module) (g : FuncId) (f : Function) (there : slice_get m.functions g.0 ≡ Some f) where
  abbrev d : Declarations
  d = declarations_of m

  pub shape_told : (v : ValueId) → shape_at (shapes_in (shapes_of m) g) v ≡ shape_in (form_of d f v)
  shape_told v =
      ap (λ o. shape_at (unwrap_or o []) v) (slice_get-map (function_shapes d) m.functions g.0 ∙ ap (option_map (function_shapes d)) there)
      ∙ ap (λ o. unwrap_or o Unknown) (slice_get-map (value_shape d) (value_types d f) v.0)
      ∙ shape_there d (slice_get (value_types d f) v.0)
      ∙ by_type d (type_at (value_types d f) v.0) (function_at (value_functions f) v.0)

-- the shape of the first result
abbrev pub first_shape : List Form → Shape
first_shape [] = Unknown
first_shape (y ∷ ys) = shape_in y

pub result_told : (m : Module) (g : FuncId) (f : Function) → slice_get m.functions g.0 ≡ Some f → (memory : Memory) (i : Inst)
    → first_shape (forms_of (declarations_of m) f i.results) ≡ result_shape_of (declarations_of m) (shapes_of m) (shapes_in (shapes_of m) g) memory i i.results
result_told m g f there memory i = at i.results
  where
    at : (vs : List ValueId) → first_shape (forms_of (declarations_of m) f vs) ≡ result_shape_of (declarations_of m) (shapes_of m) (shapes_in (shapes_of m) g) memory i vs
    at [] = refl
    at (v ∷ vs) = sym (shape_told m g f there v)
