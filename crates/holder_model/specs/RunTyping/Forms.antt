-- What the values of a function are to a run, by their types.
use Rattle.std.specs.Prelude.{◌≡◌, List, Bool, true, false, Option, Some, None, map}
use Rattle.memory_rules_accesses.specs.sil_cfg_items.Items.{item_defined}
use Rattle.holder_model_values.specs.RunValues.Shapes.{Shape, shape_of}
use Rattle.holder_model_values.specs.ValueParts.inner.Storages.{holds_no_storage}
use Rattle.sil_ast.specs.declared.function.Function.{Function}
use Rattle.sil_ast.specs.declared.place.FuncId.{FuncId}
use Rattle.sil_ast.specs.declared.place.ValueId.{ValueId}
use Rattle.sil_ast.specs.declared.type_name.TypeName.{TypeName}
use Rattle.memory_rules_accesses.specs.sil_cfg.declared.item.Item.TheVariants as item
use Rattle.ownership_kinds_origins.specs.sil_types.Typing.Shapes.{target}
use Rattle.ownership_kinds_origins.specs.sil_types.Typing.Values.{function_at, type_at, value_functions, value_types}
use Rattle.holder_model_values.specs.sil_types_declarations.TypeDefinitions.Declarations.{Declarations}
use Rattle.holder_model_values.specs.sil_types_declarations.TypeDefinitions.Mentions.{given_type}

-- a value of a shape; the address of a place of a shape; a function; or nothing that typing tells of
pub data Form : Type 0 where
  OfValue : (s : Shape) → Form
  OfPlace : (s : Shape) → Form
  OfFunction : (g : FuncId) → Form
  OfNothing : Form

abbrev pub form_with : Declarations → TypeName → Option TypeName → Form
form_with d t None = OfValue (shape_of d t)
form_with d t (Some inner) = OfPlace (shape_of d inner)

abbrev pub form_by : Declarations → Option TypeName → Option FuncId → Form
form_by d (Some t) g = form_with d t (target t)
form_by d None (Some g) = OfFunction g
form_by d None None = OfNothing

-- the form of a function's value
abbrev pub form_of : Declarations → Function → ValueId → Form
form_of d f v = form_by d (type_at (value_types d f) v.0) (function_at (value_functions f) v.0)

abbrev pub forms_of : Declarations → Function → List ValueId → List Form
forms_of d f vs = map (form_of d f) vs

-- the forms of the arguments of a function's first block
abbrev pub entry_forms : Declarations → Function → List Form
entry_forms d f = forms_of d f (item_defined f item.Entry)

-- the shape of what a function gives
abbrev pub given_shape : Declarations → Function → Shape
given_shape d f = shape_of d (given_type f.signature)

-- no weak or unowned storage is in the shape
abbrev pub has_no_storage : Shape → Bool
has_no_storage s = holds_no_storage s

-- a value or an address, which a call hands over
abbrev pub is_carried : Form → Bool
is_carried (OfValue s) = true
is_carried (OfPlace s) = true
is_carried (OfFunction g) = false
is_carried OfNothing = false

abbrev pub IsCarried : Form → Type 0
IsCarried form = is_carried form ≡ true
