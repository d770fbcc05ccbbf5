-- The shape of a type, by the type's outermost layer.
use Rattle.std.proofs.Common.{◌≡◌, ℕ, List, true, Option, Some, map, sym, ap, ◌∙◌}
use Rattle.std.specs.Prelude.{option_map, codes, length}
use Rattle.std.proofs.lemmas.Bool.{false≢true}
use Rattle.sil_ast.specs.declared.decl.Case.{Case}
use Rattle.sil_ast.specs.declared.decl.Decl.{Decl}
use Rattle.sil_ast.specs.declared.decl.Decl.TheVariants as decl
use Rattle.sil_ast.specs.declared.decl.Field.{Field}
use Rattle.sil_ast.specs.declared.decl.Storage.TheVariants as storage
use Rattle.sil_ast.specs.declared.module.Module.{Module}
use Rattle.sil_ast.specs.declared.type_name.TypeName.{TypeName, TypeName-F, out-TypeName, roll-TypeName, roll-out-TypeName}
use Rattle.sil_ast.specs.declared.type_name.TypeName.TheVariants as type
use Rattle.sil_ast.specs.declared.type_name.TypeName.TheVariants.{rolls-Named}
use Rattle.numbered_form.specs.Names.{Name}
use Rattle.holder_model.specs.sil_types_declarations.TypeDefinitions.Declarations.{all_decls, declarations_of, decl_of, is_class}
use Rattle.holder_model.specs.sil_types_declarations.TypeDefinitions.Rules.{is_class_layer, is_class_type}
use Rattle.holder_model.specs.holder_model_values.RunValues.Layers.{CaseLayer, decl_with, named_within, over}
use Rattle.holder_model.specs.holder_model_values.RunValues.Shapes.{Enum, FullCase, Integer, NoCase, PlainCase, Reference, Shape, Stored, Struct, Tuple, cases_of, members_of, shape_of, shape_with}
use Rattle.holder_model_typing.specs.RunTypingLaws.inner.WellTyped.{IsWellTyped}
use Rattle.holder_model_typing.proofs.RunTypingLaws.Declared.{class_found}
use Rattle.holder_model_typing.proofs.RunTypingLaws.Opened.{fold-Int, fold-Optional, fold-Tuple, fold-Unowned, fold-Weak}
use Rattle.holder_model_typing.proofs.RunTypingLaws.Whole.{no_ring, told_named}
pub use Rattle.holder_model_typing.proofs.RunTypingLaws.NoStorage.{no_storage_shape}
pub use Rattle.holder_model_typing.proofs.RunTypingLaws.SameTypes.{same_types}
pub use Rattle.holder_model_typing.proofs.RunTypingLaws.Sizes.{sizes}

abbrev pub field_shape_of : Module → Field → Shape
field_shape_of m f = shape_of (declarations_of m) f.ty

abbrev pub case_layer_of : Module → Case → CaseLayer Shape
case_layer_of m c = record { name = c.name; payload = option_map (shape_of (declarations_of m)) c.payload }

-- the shape of a name, as it is looked up
abbrev named_shape : Module → Name → Shape
named_shape m = named_within shape_with (declarations_of m) (length (all_decls (declarations_of m)))

pub int_shape : (m : Module) (w : ℕ) → shape_of (declarations_of m) (type.Int w) ≡ Integer w
int_shape m w = fold-Int Shape (over shape_with (named_shape m)) w

pub tuple_shape : (m : Module) (ts : List TypeName) → shape_of (declarations_of m) (type.Tuple ts) ≡ Tuple (members_of (map (shape_of (declarations_of m)) ts))
tuple_shape m ts = fold-Tuple Shape (over shape_with (named_shape m)) ts

pub optional_shape : (m : Module) (t : TypeName) → shape_of (declarations_of m) (type.Optional t)
    ≡ Enum (codes "Optional") (PlainCase (codes "none") (FullCase (codes "some") (shape_of (declarations_of m) t) NoCase))
optional_shape m t = fold-Optional Shape (over shape_with (named_shape m)) t

pub weak_shape : (m : Module) (t : TypeName) → shape_of (declarations_of m) (type.Weak t) ≡ Stored storage.Weak (shape_of (declarations_of m) t)
weak_shape m t = fold-Weak Shape (over shape_with (named_shape m)) t

pub unowned_shape : (m : Module) (t : TypeName) → shape_of (declarations_of m) (type.Unowned t) ≡ Stored storage.Unowned (shape_of (declarations_of m) t)
unowned_shape m t = fold-Unowned Shape (over shape_with (named_shape m)) t

-- the shape of a name is that of what it finds
declared_shape : (m : Module) → IsWellTyped m → (name : Name) (x : Option Decl) → decl_of (declarations_of m) name ≡ x
    → shape_of (declarations_of m) (type.Named name) ≡ decl_with shape_with (named_shape m) x
declared_shape m r name x e = told_named shape_with (declarations_of m) (no_ring m r.declared) name ∙ ap (decl_with shape_with (named_shape m)) e

pub struct_shape : (m : Module) → IsWellTyped m → (name n : Name) (fields : List Field) → decl_of (declarations_of m) name ≡ Some (decl.Struct n fields)
    → shape_of (declarations_of m) (type.Named name) ≡ Struct n (members_of (map (field_shape_of m) fields))
struct_shape m r name n fields e = declared_shape m r name (Some (decl.Struct n fields)) e

pub enum_shape : (m : Module) → IsWellTyped m → (name n : Name) (cases : List Case) → decl_of (declarations_of m) name ≡ Some (decl.Enum n cases)
    → shape_of (declarations_of m) (type.Named name) ≡ Enum n (cases_of (map (case_layer_of m) cases))
enum_shape m r name n cases e = declared_shape m r name (Some (decl.Enum n cases)) e

-- a type that is a class is a reference of this class
pub class_shape : (m : Module) → IsWellTyped m → (name : Name) → is_class (declarations_of m) name ≡ true
    → shape_of (declarations_of m) (type.Named name) ≡ Reference name
class_shape m r name e =
    let found = class_found (declarations_of m) name e in
    declared_shape m r name (Some (decl.Class name found.0 found.1)) found.2

pub class_type_shape : (m : Module) → IsWellTyped m → (t : TypeName) → is_class_type (declarations_of m) t ≡ true
    → (name : Name) × (t ≡ type.Named name) × (is_class (declarations_of m) name ≡ true) × (shape_of (declarations_of m) t ≡ Reference name)
class_type_shape m r t e = at (out-TypeName t) (sym (roll-out-TypeName t)) e
  where
    at : (x : TypeName-F TypeName) → t ≡ roll-TypeName x → is_class_layer (declarations_of m) x ≡ true
        → (name : Name) × (t ≡ type.Named name) × (is_class (declarations_of m) name ≡ true) × (shape_of (declarations_of m) t ≡ Reference name)
    at (TypeName-F.Named name) p e =
        let same : t ≡ type.Named name = p ∙ rolls-Named name in
        (name, same, e, ap (shape_of (declarations_of m)) same ∙ class_shape m r name e)
    at _ p e = absurd (false≢true e)
