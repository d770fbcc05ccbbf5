-- Where storage stands in the types of operands, by what is placed there: none in an object's type, an Optional of a class behind `@sil_weak`, a class behind `@sil_unowned`.
use Rattle.std.proofs.Common.{◌≡◌, refl, sym, ap, ◌∙◌, subst, true, false, Some}
use Rattle.std.specs.Prelude.{codes}
use Rattle.std.proofs.lemmas.Bool.{not-false}
use Rattle.sil_ast.specs.declared.decl.Storage.{Storage}
use Rattle.sil_ast.specs.declared.decl.Storage.TheVariants as storage
use Rattle.sil_ast.specs.declared.module.Module.{Module}
use Rattle.sil_ast.specs.declared.type_name.TypeName.{TypeName, TypeName-F, out-TypeName}
use Rattle.sil_ast.specs.declared.type_name.TypeName.TheVariants as type
use Rattle.holder_model.specs.sil_types_declarations.TypeDefinitions.Declarations.{Declarations, declarations_of}
use Rattle.holder_model.specs.sil_types_declarations.TypeDefinitions.Rules.{has_storage, is_class_type, is_misplaced_in_storage, is_misplaced_layer, is_misplaced_value}
use Rattle.holder_model.specs.sil_types_declarations.TypeDefinitions.Rules.{is_misplaced_value_layer, is_optional_class, is_optional_class_layer}
use Rattle.holder_model.specs.sil_types.Typing.Shapes.{is_object, is_object_layer, target, target_in}
use Rattle.holder_model.specs.holder_model_values.RunValues.Shapes.{Enum, FullCase, NoCase, PlainCase, shape_of}
use Rattle.holder_model.specs.RunTyping.Forms.{has_no_storage}
use Rattle.holder_model.specs.RunTyping.StorageForms.{FieldShapeIs, IsNamed, named, plain, unowned, weak}
use Rattle.holder_model_typing.specs.RunTypingLaws.inner.WellTyped.{IsWellTyped}
use Rattle.holder_model_typing.proofs.RunTypingLaws.ShapeFacts.{class_type_shape, no_storage_shape, optional_shape, unowned_shape, weak_shape}
use Rattle.holder_model_typing.proofs.RunTypingLaws.Rows.Layers.{is_optional, is_unowned, is_weak, out-Unowned, out-Weak}

module _ (d : Declarations) (t : TypeName) where
  -- an object's type in which storage may only stand directly has none
  pub object_holds_none : is_object t ≡ true → is_misplaced_value d t ≡ false → has_storage t ≡ false
  object_holds_none object placed = at (out-TypeName t) object placed
    where
      at : (layer : TypeName-F TypeName) → is_object_layer layer ≡ true → is_misplaced_value_layer d t layer ≡ false → has_storage t ≡ false
      at (TypeName-F.Int w) o e = e
      at (TypeName-F.Named name) o e = e
      at (TypeName-F.Optional inner) o e = e
      at (TypeName-F.Tuple parts) o e = e
      at (TypeName-F.Weak inner) o e = e
      at (TypeName-F.Unowned inner) o e = e
      at (TypeName-F.Address inner) o e = absurd (cc)

  pub object_in_storage : is_object t ≡ true → is_misplaced_in_storage d t ≡ false → has_storage t ≡ false
  object_in_storage object placed = at (out-TypeName t) object placed
    where
      at : (layer : TypeName-F TypeName) → is_object_layer layer ≡ true → is_misplaced_layer d t layer ≡ false → has_storage t ≡ false
      at (TypeName-F.Int w) o e = e
      at (TypeName-F.Named name) o e = e
      at (TypeName-F.Optional inner) o e = e
      at (TypeName-F.Tuple parts) o e = e
      at (TypeName-F.Weak inner) o e = absurd (cc)
      at (TypeName-F.Unowned inner) o e = absurd (cc)
      at (TypeName-F.Address inner) o e = e

  -- what stands at an address is placed there
  pub behind_address : (inner : TypeName) → target t ≡ Some inner → is_misplaced_value d t ≡ false → is_misplaced_in_storage d inner ≡ false
  behind_address inner is placed = at (out-TypeName t) is placed
    where
      at : (layer : TypeName-F TypeName) → target_in layer ≡ Some inner → is_misplaced_value_layer d t layer ≡ false → is_misplaced_in_storage d inner ≡ false
      at (TypeName-F.Int w) o e = absurd (cc)
      at (TypeName-F.Named name) o e = absurd (cc)
      at (TypeName-F.Optional x) o e = absurd (cc)
      at (TypeName-F.Tuple parts) o e = absurd (cc)
      at (TypeName-F.Weak x) o e = absurd (cc)
      at (TypeName-F.Unowned x) o e = absurd (cc)
      at (TypeName-F.Address x) o e = let same : x ≡ inner = cc in subst (λ y. is_misplaced_in_storage d y ≡ false) same e

  pub optional_type : is_optional_class d t ≡ true → (inner : TypeName) × (t ≡ type.Optional inner) × (is_class_type d inner ≡ true)
  optional_type e = at (out-TypeName t) refl e
    where
      at : (layer : TypeName-F TypeName) → out-TypeName t ≡ layer → is_optional_class_layer d layer ≡ true → (inner : TypeName) × (t ≡ type.Optional inner) × (is_class_type d inner ≡ true)
      at (TypeName-F.Int w) o e = absurd (cc)
      at (TypeName-F.Named name) o e = absurd (cc)
      at (TypeName-F.Optional inner) o e = (inner, is_optional t inner o, e)
      at (TypeName-F.Tuple parts) o e = absurd (cc)
      at (TypeName-F.Weak x) o e = absurd (cc)
      at (TypeName-F.Unowned x) o e = absurd (cc)
      at (TypeName-F.Address x) o e = absurd (cc)

-- behind `@sil_weak` stands an Optional of a class, and behind `@sil_unowned` a class
pub in_weak_storage : (d : Declarations) (inner : TypeName) → is_misplaced_in_storage d (type.Weak inner) ≡ false → is_optional_class d inner ≡ true
in_weak_storage d inner e = not-false (is_optional_class d inner) (subst (λ layer. is_misplaced_layer d (type.Weak inner) layer ≡ false) (out-Weak inner) e)

pub in_unowned_storage : (d : Declarations) (inner : TypeName) → is_misplaced_in_storage d (type.Unowned inner) ≡ false → is_class_type d inner ≡ true
in_unowned_storage d inner e = not-false (is_class_type d inner) (subst (λ layer. is_misplaced_layer d (type.Unowned inner) layer ≡ false) (out-Unowned inner) e)

module _ (m : Module) (r : IsWellTyped m) where
  pub weak_is_named : (t : TypeName) → is_optional_class (declarations_of m) t ≡ true → IsNamed storage.Weak (shape_of (declarations_of m) t)
  weak_is_named t e =
      let it = optional_type (declarations_of m) t e in
      let class = class_type_shape m r it.0 it.2 in
      let shape = ap (shape_of (declarations_of m)) it.1 ∙ optional_shape m it.0 in
      subst (IsNamed storage.Weak) (sym shape)
      (subst (λ s. IsNamed storage.Weak (Enum (codes "Optional") (PlainCase (codes "none") (FullCase (codes "some") s NoCase)))) (sym class.3)
      (weak class.0 (codes "Optional") (codes "none") (codes "some")))

  pub unowned_is_named : (t : TypeName) → is_class_type (declarations_of m) t ≡ true → IsNamed storage.Unowned (shape_of (declarations_of m) t)
  unowned_is_named t e =
      let class = class_type_shape m r t e in
      subst (IsNamed storage.Unowned) (sym class.3) (unowned class.0)

  -- a class holds no storage
  pub class_holds_none : (t : TypeName) → is_class_type (declarations_of m) t ≡ true → has_no_storage (shape_of (declarations_of m) t) ≡ true
  class_holds_none t e = ap has_no_storage (class_type_shape m r t e).3

  -- a type in which storage may only stand directly holds none, or is storage of what can be named
  pub stored_shape : (t : TypeName) → is_misplaced_in_storage (declarations_of m) t ≡ false
      → (w : Storage) × FieldShapeIs w (shape_of (declarations_of m) t)
  stored_shape t placed = at (out-TypeName t) refl placed
    where
      none_within : has_storage t ≡ false → (w : Storage) × FieldShapeIs w (shape_of (declarations_of m) t)
      none_within e = (storage.Strong, plain _ (no_storage_shape m r t e))

      at : (layer : TypeName-F TypeName) → out-TypeName t ≡ layer → is_misplaced_layer (declarations_of m) t layer ≡ false
          → (w : Storage) × FieldShapeIs w (shape_of (declarations_of m) t)
      at (TypeName-F.Int w) o e = none_within e
      at (TypeName-F.Named name) o e = none_within e
      at (TypeName-F.Optional inner) o e = none_within e
      at (TypeName-F.Tuple parts) o e = none_within e
      at (TypeName-F.Weak inner) o e =
          let same = is_weak t inner o in (
            storage.Weak,
            subst (FieldShapeIs storage.Weak) (sym (ap (shape_of (declarations_of m)) same ∙ weak_shape m inner))
                (named storage.Weak _ (weak_is_named inner (not-false _ e))),
          )
      at (TypeName-F.Unowned inner) o e =
          let same = is_unowned t inner o in (
            storage.Unowned,
            subst (FieldShapeIs storage.Unowned) (sym (ap (shape_of (declarations_of m)) same ∙ unowned_shape m inner))
                (named storage.Unowned _ (unowned_is_named inner (not-false _ e))),
          )
      at (TypeName-F.Address inner) o e = none_within e
