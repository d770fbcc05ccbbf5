-- What typing says of the fields of classes in the words of a run.
use Rattle.std.specs.Prelude.{◌≡◌, true, map}
use Rattle.holder_model.specs.ModuleShapes.{field_shape, field_shapes, shapes_of}
use Rattle.ownership_kinds_origins.specs.numbered_form.Lists.{Each}
use Rattle.ownership_kinds_origins.specs.numbered_form.Names.{Name}
use Rattle.holder_model_values.specs.RunValues.Leaves.{in_leaves}
use Rattle.sil_ast.specs.declared.decl.Field.{Field}
use Rattle.sil_ast.specs.declared.module.Module.{Module}
use Rattle.ownership_kinds_origins.specs.sil_types.Typing.Shapes.{stored_as}
use Rattle.holder_model_values.specs.sil_types_declarations.TypeDefinitions.Declarations.{Declarations, declarations_of, is_class}
use Rattle.holder_model_values.specs.sil_types_declarations.TypeDefinitions.Lookups.{fields_of}
use Rattle.holder_model_values.specs.sil_types_declarations.TypeDefinitions.Measures.{leaves_of}
use Rattle.holder_model.specs.RunTyping.StorageForms.{FieldShapeIs}

abbrev pub IsTypedField : Declarations → Field → Type 0
IsTypedField d f = FieldShapeIs f.storage (field_shape d f)

-- a field has as many leaves as its type
abbrev pub IsMeasuredField : Declarations → Field → Type 0
IsMeasuredField d f = (in_leaves (field_shape d f)).size ≡ leaves_of d (stored_as f.storage f.ty)

-- the shapes of a class's fields are those of its fields, its ancestors' first
pub record HasTypedFields (m : Module) (class : Name) : Type 0 where
  pub listed : field_shapes (shapes_of m) class ≡ map (field_shape (declarations_of m)) (fields_of (declarations_of m) class)
  pub each : Each (IsTypedField (declarations_of m)) (fields_of (declarations_of m) class)
  pub measured : Each (IsMeasuredField (declarations_of m)) (fields_of (declarations_of m) class)

abbrev pub AreFieldsTyped : Module → Type 0
AreFieldsTyped m = (class : Name) → is_class (declarations_of m) class ≡ true → HasTypedFields m class
