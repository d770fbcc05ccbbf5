-- What a run reads of types: the shapes of values and of fields. No run looks at a type itself.
use Rattle.std.specs.Prelude.{ℕ, List, [], ◌∷◌, Bool, Option, Some, None, map, position, find, slice_get, unwrap_or, bytes_eq}
use Rattle.std.specs.List.{flat_map}
use Rattle.std.specs.Option.{option_to_list}
use Rattle.sil_ast.specs.declared.decl.Decl.{Decl}
use Rattle.sil_ast.specs.declared.decl.Decl.TheVariants.{Struct, Enum, Class}
use Rattle.sil_ast.specs.declared.decl.Field.{Field}
use Rattle.sil_ast.specs.declared.function.Function.{Function}
use Rattle.sil_ast.specs.declared.member.Member.{Member}
use Rattle.sil_ast.specs.declared.module.Module.{Module}
use Rattle.sil_ast.specs.declared.place.FuncId.{FuncId}
use Rattle.sil_ast.specs.declared.place.ValueId.{ValueId}
use Rattle.sil_ast.specs.declared.type_name.TypeName.{TypeName}
use Rattle.ownership_kinds_origins.specs.numbered_form.Names.{Name}
use Rattle.holder_model_values.specs.sil_types_declarations.TypeDefinitions.Declarations.{Declarations, declarations_of}
use Rattle.holder_model_values.specs.sil_types_declarations.TypeDefinitions.Lookups.{fields_of}
use Rattle.ownership_kinds_origins.specs.sil_types.Typing.Shapes.{stored_as, target}
use Rattle.ownership_kinds_origins.specs.sil_types.Typing.Values.{value_types}
use Rattle.holder_model_values.specs.RunValues.Layers.{CaseLayer}
use Rattle.holder_model_values.specs.RunValues.Shapes.{Shape, Unknown, case_shapes, shape_of}

-- the fields of a class, its ancestors' first: of a weak or unowned one the shape of its storage
pub record ClassShape : Type 0 where
  pub name : Name
  pub fields : List Shape

-- of each function the shapes of its values, by their numbers; and the classes
pub record ModuleShapes : Type 0 where
  pub functions : List (List Shape)
  pub classes : List ClassShape

abbrev pub field_shape : Declarations → Field → Shape
field_shape d f = shape_of d (stored_as f.storage f.ty)

abbrev pub class_shape : Declarations → Decl → List ClassShape
class_shape d (Struct name fields) = []
class_shape d (Enum name cases) = []
class_shape d (Class name superclass fields) = record { name = name; fields = map (field_shape d) (fields_of d name) } ∷ []

-- a value's shape; of an address that of what is at it
abbrev pub value_shape : Declarations → Option TypeName → Shape
value_shape d None = Unknown
value_shape d (Some t) = shape_of d (unwrap_or (target t) t)

abbrev pub function_shapes : Declarations → Function → List Shape
function_shapes d f = map (value_shape d) (value_types d f)

abbrev pub shapes_by : Declarations → Module → ModuleShapes
shapes_by d m = record { functions = map (function_shapes d) m.functions; classes = flat_map (class_shape d) d.decls }

abbrev pub shapes_of : Module → ModuleShapes
shapes_of m = shapes_by (declarations_of m) m

abbrev pub shapes_in : ModuleShapes → FuncId → List Shape
shapes_in shapes g = unwrap_or (slice_get shapes.functions g.0) []

-- the shape of a function's value
abbrev pub shape_at : List Shape → ValueId → Shape
shape_at shapes v = unwrap_or (slice_get shapes v.0) Unknown

abbrev pub is_class : Name → ClassShape → Bool
is_class name c = bytes_eq name c.name

abbrev pub fields_in : ClassShape → List Shape
fields_in c = c.fields

-- the fields of the class
abbrev pub field_shapes : ModuleShapes → Name → List Shape
field_shapes shapes class = flat_map fields_in (option_to_list (find (is_class class) shapes.classes))

abbrev pub is_case : Name → CaseLayer Shape → Bool
is_case name c = bytes_eq name c.name

-- the place of the case that is named, among those of an enum
abbrev pub case_place : Shape → Option Member → Option ℕ
case_place s None = None
case_place s (Some m) = position (is_case m.name) (case_shapes s)
