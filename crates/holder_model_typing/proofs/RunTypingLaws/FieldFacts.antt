-- The fields of classes: a weak one is storage of an Optional of a class, an unowned one of a class, and no storage stands in any other.
use Rattle.std.proofs.Common.{◌≡◌, List, [], ◌∷◌, ◌++◌, Bool, true, false, map, refl, sym, ap, ◌∙◌, subst}
use Rattle.std.specs.Prelude.{codes}
use Rattle.std.specs.List.{list_any}
use Rattle.sil_ast.specs.declared.decl.Decl.TheVariants.{Class}
use Rattle.sil_ast.specs.declared.decl.Field.{Field}
use Rattle.sil_ast.specs.declared.decl.Storage.{Storage}
use Rattle.sil_ast.specs.declared.decl.Storage.TheVariants as storage
use Rattle.sil_ast.specs.declared.module.Module.{Module}
use Rattle.sil_ast.specs.declared.type_name.TypeName.{TypeName, TypeName-F, out-TypeName}
use Rattle.numbered_form.specs.Lists.{Each}
use Rattle.numbered_form.specs.Names.{Name}
use Rattle.numbered_form.specs.inner.Types.{HasDeclTypes, HasFieldType, is_plain_type}
use Rattle.holder_model.specs.ModuleShapes.{field_shape}
use Rattle.holder_model.specs.holder_model_values.RunValues.Shapes.{Enum, FullCase, NoCase, PlainCase, Shape, shape_of}
use Rattle.holder_model.specs.holder_model_values.RunValues.inner.Laws.{has_no_address, has_no_address_over}
use Rattle.holder_model.specs.sil_types.Typing.Shapes.{stored_as}
use Rattle.holder_model.specs.sil_types_declarations.TypeDefinitions.Declarations.{Declarations, declarations_of, is_class}
use Rattle.holder_model.specs.sil_types_declarations.TypeDefinitions.Lookups.{chain_fields, decl_fields, fields_of, own_fields}
use Rattle.holder_model.specs.sil_types_declarations.TypeDefinitions.Mentions.{field_standing, in_field}
use Rattle.holder_model.specs.sil_types_declarations.TypeDefinitions.Rules.{is_class_type, is_misplaced, is_misplaced_at, is_optional_class, is_optional_class_layer}
use Rattle.holder_model.specs.RunTyping.FieldForms.{AreFieldsTyped, IsMeasuredField}
use Rattle.holder_model.specs.RunTyping.StorageForms.{FieldShapeIs, named, plain}
use Rattle.holder_model.specs.RunTyping.StorageForms.{IsNamed, unowned, weak}
use Rattle.holder_model_typing.specs.RunTypingLaws.inner.WellTyped.{IsWellTyped}
use Rattle.holder_model_typing.proofs.RunTypingLaws.ClassChains.{line_of}
use Rattle.holder_model_typing.proofs.RunTypingLaws.FieldShapes.{field_shapes_are}
use Rattle.holder_model_typing.proofs.RunTypingLaws.Found.{each_at, neither_first, neither_second, not_false}
use Rattle.holder_model_typing.proofs.RunTypingLaws.Outer.{is_Optional}
use Rattle.holder_model_typing.proofs.RunTypingLaws.Opened.{fold-Unowned, fold-Weak}
use Rattle.holder_model_typing.proofs.RunTypingLaws.ShapeFacts.{class_type_shape, no_storage_shape, optional_shape, unowned_shape, weak_shape}
use Rattle.holder_model_typing.proofs.RunTypingLaws.Sizes.{plain_type, sizes}
use Rattle.holder_model_typing.proofs.RunTypingLaws.TextClasses.{in_text, line_of_classes, well_named}

module _ (m : Module) (r : IsWellTyped m) where
  abbrev d : Declarations
  d = declarations_of m

  abbrev shape : TypeName → Shape
  shape = shape_of d

  -- an Optional of a class, and a class, are what storage names
  weak_named : (t : TypeName) → is_optional_class d t ≡ true → IsNamed storage.Weak (shape t)
  weak_named t h = at (out-TypeName t) refl h
    where
      at : (layer : TypeName-F TypeName) → out-TypeName t ≡ layer → is_optional_class_layer d layer ≡ true → IsNamed storage.Weak (shape t)
      at (TypeName-F.Optional target) e h =
          let c = class_type_shape m r target h in
          let is = ap shape (is_Optional t target e) ∙ optional_shape m target ∙ ap (λ s. Enum (codes "Optional") (PlainCase (codes "none") (FullCase (codes "some") s NoCase))) c.3 in
          subst (IsNamed storage.Weak) (sym is) (weak c.0 (codes "Optional") (codes "none") (codes "some"))
      at _ e h = cc

  unowned_named : (t : TypeName) → is_class_type d t ≡ true → IsNamed storage.Unowned (shape t)
  unowned_named t h = let c = class_type_shape m r t h in subst (IsNamed storage.Unowned) (sym c.3) (unowned c.0)

  abbrev IsRight : Field → Type 0
  IsRight f = FieldShapeIs f.storage (field_shape d f)

  -- a field that stands where it may
  by_storage : (w : Storage) (t : TypeName) → is_misplaced_at d (field_standing w) t ≡ false → FieldShapeIs w (shape (stored_as w t))
  by_storage storage.Strong t h = plain (shape t) (no_storage_shape m r t h)
  by_storage storage.Weak t h =
      subst (FieldShapeIs storage.Weak) (sym (weak_shape m t)) (named storage.Weak (shape t) (weak_named t (not_false (is_optional_class d t) h)))
  by_storage storage.Unowned t h =
      subst (FieldShapeIs storage.Unowned) (sym (unowned_shape m t)) (named storage.Unowned (shape t) (unowned_named t (not_false (is_class_type d t) h)))

  each_right : (fields : List Field) → list_any (is_misplaced d) (map in_field fields) ≡ false → Each IsRight fields
  each_right [] h = tt
  each_right (f ∷ fields) h = (
    by_storage f.storage f.ty (neither_first (is_misplaced d (in_field f)) (list_any (is_misplaced d) (map in_field fields)) h),
    each_right fields (neither_second (is_misplaced d (in_field f)) (list_any (is_misplaced d) (map in_field fields)) h),
  )

  own_right : (class : Name) → is_class d class ≡ true → Each IsRight (own_fields d class)
  own_right class h =
      let t = in_text d class h in
      let x = Class class t.superclass t.fields in
      let stored = (well_named m r t.place x t.there).storage in
      subst (Each IsRight) (sym (ap decl_fields t.found_so)) (each_right t.fields stored)

  abbrev IsMeasured : Field → Type 0
  IsMeasured = IsMeasuredField d

  -- a type is stored without an address where it is written without one
  plain_stored : (w : Storage) (t : TypeName) → is_plain_type t ≡ true → has_no_address (stored_as w t) ≡ true
  plain_stored storage.Strong t h = plain_type t h
  plain_stored storage.Weak t h = fold-Weak Bool has_no_address_over t ∙ plain_type t h
  plain_stored storage.Unowned t h = fold-Unowned Bool has_no_address_over t ∙ plain_type t h

  each_measured : (fields : List Field) → Each HasFieldType fields → Each IsMeasured fields
  each_measured [] h = tt
  each_measured (f ∷ fields) h = (sizes m r (stored_as f.storage f.ty) (plain_stored f.storage f.ty h.0.written), each_measured fields h.1)

  own_measured : (class : Name) → is_class d class ≡ true → Each IsMeasured (own_fields d class)
  own_measured class h =
      let t = in_text d class h in
      let types = each_at HasDeclTypes m.decls t.place (Class class t.superclass t.fields) r.numbered.types.declarations t.there in
      subst (Each IsMeasured) (sym (ap decl_fields t.found_so)) (each_measured t.fields types)

  -- what holds of each class's own fields holds of those that are inherited too
  module _ (P : Field → Type 0) (own : (class : Name) → is_class d class ≡ true → Each P (own_fields d class)) where
    appended : (xs ys : List Field) → Each P xs → Each P ys → Each P (xs ++ ys)
    appended [] ys h k = k
    appended (x ∷ xs) ys h k = (h.0, appended xs ys h.1 k)

    chain_each : (classes : List Name) → Each (λ class. is_class d class ≡ true) classes → Each P (chain_fields d classes)
    chain_each [] h = tt
    chain_each (class ∷ above) h = appended (chain_fields d above) (own_fields d class) (chain_each above h.1) (own class h.0)

  -- each field of a class, inherited or its own, is of the shape that its storage asks for
  pub each_field : (class : Name) → is_class d class ≡ true → Each (λ f. FieldShapeIs f.storage (field_shape d f)) (fields_of d class)
  each_field class h = chain_each IsRight own_right (line_of d class) (line_of_classes m r class h)

  pub fields_are_typed : AreFieldsTyped m
  fields_are_typed class h = record {
    listed = field_shapes_are m r class h;
    each = each_field class h;
    measured = chain_each IsMeasured own_measured (line_of d class) (line_of_classes m r class h);
  }
