-- The rows that look for a member: of a value, at an address, or a field of an object; and the one that takes an object as one of an ancestor.
use Rattle.std.proofs.Common.{◌≡◌, ℕ, [], ◌∷◌, refl, sym, ap, ◌∙◌, true, Option, Some}
use Rattle.std.specs.Prelude.{option_and_then, option_map, slice_get}
use Rattle.instruction_table.specs.Forms.{detail_of}
use Rattle.instruction_table.specs.declared.op.Op.{Op}
use Rattle.instruction_table.specs.declared.op.Op.TheVariants as op
use Rattle.numbered_form.specs.inner.Types.{HasOperandType, IsPlacedType, is_placed_type}
use Rattle.sil_ast.specs.declared.decl.Field.{Field}
use Rattle.sil_ast.specs.declared.function.Function.{Function}
use Rattle.sil_ast.specs.declared.inst.Inst.{Inst}
use Rattle.sil_ast.specs.declared.member.Member.{Member}
use Rattle.sil_ast.specs.declared.module.Module.{Module}
use Rattle.sil_ast.specs.declared.type_name.TypeName.{TypeName}
use Rattle.sil_ast.specs.declared.type_name.TypeName.TheVariants as type
use Rattle.holder_model.specs.Effects.{effect_of, part_number_by}
use Rattle.holder_model.specs.ModuleShapes.{field_shape}
use Rattle.holder_model.specs.memory_rules_accesses.Sources.{member_place}
use Rattle.holder_model.specs.sil_types_declarations.TypeDefinitions.Declarations.{declarations_of}
use Rattle.holder_model.specs.sil_types.Typing.RowTypes.{address_of, address_of_field, gives, type_of, written}
use Rattle.holder_model.specs.sil_types.Typing.Shapes.{class_field, element_of, elements, field_address, field_type, stored_as, struct_field, target}
use Rattle.holder_model.specs.holder_model_values.RunValues.Shapes.{Reference, shape_of}
use Rattle.holder_model.specs.RunTyping.Forms.{OfPlace, OfValue}
use Rattle.holder_model.specs.RunTyping.RowForms.{member, member_address}
use Rattle.holder_model.specs.RunTyping.RowForms as row
use Rattle.holder_model_typing.specs.RunTypingLaws.inner.WellTyped.{IsWellTyped}
use Rattle.holder_model_typing.proofs.RunTypingLaws.MemberFacts.{class_member, element_shape, struct_member}
use Rattle.holder_model_typing.proofs.RunTypingLaws.ShapeFacts.{class_shape}
use Rattle.holder_model_typing.proofs.RunTypingLaws.Rows.Addresses.{element_target, field_target}
use Rattle.holder_model_typing.proofs.RunTypingLaws.Rows.Finding.{each_at, found_behind, if_some}
use Rattle.numbered_form.proofs.Lists.{mapped_from}
use Rattle.holder_model_typing.proofs.RunTypingLaws.Rows.Forms.{place_form, typed_form, value_form}
use Rattle.holder_model_typing.proofs.RunTypingLaws.Rows.Known.{Known}
use Rattle.holder_model_typing.proofs.RunTypingLaws.Rows.Layers.{target-Address, target-Named, target-Tuple, tuple_type}
use Rattle.holder_model_typing.proofs.RunTypingLaws.Rows.Shares.{Row, given_one, gives_form, of_parts, one_operand, row_of}

module _ (m : Module) (r : IsWellTyped m) (f : Function) (i : Inst) where
  -- an operand's written type is written with one `*` at most
  pub placed_so : (o : Op) → Known m f i o → (n : ℕ) (t : TypeName) → written n i ≡ Some t → is_placed_type t ≡ true
  placed_so o k n t e =
      let it = found_behind type_of (slice_get i.operands n) t e in
      (if_some IsPlacedType it.0.ty t it.2 (each_at HasOperandType i.operands n it.0 k.types.operands it.1)).written

  -- the field that a row finds, and where
  record IsMember (find : Member → TypeName → Option Field) (at : Option TypeName) : Type 0 where
    named : Member
    is_named : i.member ≡ Some named
    ty : TypeName
    is_at : at ≡ Some ty
    field : Field
    found : find named ty ≡ Some field

  found_member : (find : Member → TypeName → Option Field) (type_of_field : Field → TypeName) (at : Option TypeName) (t : TypeName)
      → option_map type_of_field (option_and_then (λ n. option_and_then (find n) at) i.member) ≡ Some t
      → (w : IsMember find at) × (type_of_field w.field ≡ t)
  found_member find type_of_field at t e =
      let it = mapped_from type_of_field (option_and_then (λ n. option_and_then (find n) at) i.member) t e in
      let named = found_behind (λ n. option_and_then (find n) at) i.member it.0 it.1 in
      let there = found_behind (find named.0) at it.0 named.2 in
      (record { named = named.0; is_named = named.1; ty = there.0; is_at = there.1; field = it.0; found = there.2 }, it.2)

  pub struct_extract : Known m f i op.StructExtract → Row m f i
  struct_extract k =
      let it = given_one _ k.keeps in
      let w = found_member (struct_field (declarations_of m)) field_type (written 0 i) it.0 it.1 in
      let none = field_target m r w.0.named w.0.ty w.0.field w.0.found in
      let place = struct_member m r w.0.named w.0.ty w.0.field w.0.found in
      row_of m f i (OfValue (shape_of (declarations_of m) w.0.ty) ∷ []) (OfValue (shape_of (declarations_of m) w.0.field.ty) ∷ [])
      (one_operand m f i op.StructExtract k (of_parts _ k.operands) w.0.ty w.0.is_at ∙ ap (λ x. x ∷ []) (value_form (declarations_of m) w.0.ty none.0))
      (gives_form m f i op.StructExtract k refl it.0 (ap gives it.1) ∙ ap (λ t. typed_form (declarations_of m) t ∷ []) (sym w.1)
      ∙ ap (λ x. x ∷ []) (value_form (declarations_of m) w.0.field.ty none.1))
      (member _ _ place.0 (ap effect_of k.op)
      (ap (λ o. part_number_by (detail_of o) (declarations_of m) i) k.op ∙ ap (member_place (declarations_of m)) w.0.is_named ∙ place.1) place.2)

  pub struct_element_addr : Known m f i op.StructElementAddr → Row m f i
  struct_element_addr k =
      let it = given_one _ k.keeps in
      let w = found_member (struct_field (declarations_of m)) address_of_field (option_and_then target (written 0 i)) it.0 it.1 in
      let at = found_behind target (written 0 i) w.0.ty w.0.is_at in
      let place = struct_member m r w.0.named w.0.ty w.0.field w.0.found in
      row_of m f i (OfPlace (shape_of (declarations_of m) w.0.ty) ∷ []) (OfPlace (shape_of (declarations_of m) w.0.field.ty) ∷ [])
      (one_operand m f i op.StructElementAddr k (of_parts _ k.operands) at.0 at.1 ∙ ap (λ x. x ∷ []) (place_form (declarations_of m) at.0 w.0.ty at.2))
      (gives_form m f i op.StructElementAddr k refl it.0 (ap gives it.1)
      ∙ ap (λ x. x ∷ []) (place_form (declarations_of m) it.0 w.0.field.ty (ap target (sym w.1) ∙ target-Address w.0.field.ty)))
      (member_address _ _ place.0 (ap effect_of k.op)
      (ap (λ o. part_number_by (detail_of o) (declarations_of m) i) k.op ∙ ap (member_place (declarations_of m)) w.0.is_named ∙ place.1) place.2)

  pub tuple_extract : Known m f i op.TupleExtract → Row m f i
  tuple_extract k =
      let it = given_one (option_and_then (element_of i.number) (written 0 i)) k.keeps in
      let at = found_behind (element_of i.number) (written 0 i) it.0 it.1 in
      let ts = found_behind _ (elements at.0) it.0 at.2 in
      let place = element_shape m i.number at.0 it.0 at.2 in
      row_of m f i (OfValue (shape_of (declarations_of m) at.0) ∷ []) (OfValue (shape_of (declarations_of m) it.0) ∷ [])
      (one_operand m f i op.TupleExtract k (of_parts _ k.operands) at.0 at.1
      ∙ ap (λ x. x ∷ []) (value_form (declarations_of m) at.0 (ap target (tuple_type at.0 ts.0 ts.1) ∙ target-Tuple ts.0)))
      (gives_form m f i op.TupleExtract k refl it.0 (ap gives it.1)
      ∙ ap (λ x. x ∷ []) (value_form (declarations_of m) it.0 (element_target i.number at.0 it.0 (placed_so op.TupleExtract k 0 at.0 at.1) at.2)))
      (member _ _ place.0 (ap effect_of k.op) (ap (λ o. part_number_by (detail_of o) (declarations_of m) i) k.op ∙ place.1) place.2)

  pub tuple_element_addr : Known m f i op.TupleElementAddr → Row m f i
  tuple_element_addr k =
      let it = given_one (option_map address_of (option_and_then (element_of i.number) (option_and_then target (written 0 i)))) k.keeps in
      let element = mapped_from address_of (option_and_then (element_of i.number) (option_and_then target (written 0 i))) it.0 it.1 in
      let whole = found_behind (element_of i.number) (option_and_then target (written 0 i)) element.0 element.1 in
      let at = found_behind target (written 0 i) whole.0 whole.1 in
      let place = element_shape m i.number whole.0 element.0 whole.2 in
      row_of m f i (OfPlace (shape_of (declarations_of m) whole.0) ∷ []) (OfPlace (shape_of (declarations_of m) element.0) ∷ [])
      (one_operand m f i op.TupleElementAddr k (of_parts _ k.operands) at.0 at.1 ∙ ap (λ x. x ∷ []) (place_form (declarations_of m) at.0 whole.0 at.2))
      (gives_form m f i op.TupleElementAddr k refl it.0 (ap gives it.1)
      ∙ ap (λ x. x ∷ []) (place_form (declarations_of m) it.0 element.0 (ap target (sym element.2) ∙ target-Address element.0)))
      (member_address _ _ place.0 (ap effect_of k.op) (ap (λ o. part_number_by (detail_of o) (declarations_of m) i) k.op ∙ place.1) place.2)

  pub ref_element_addr : Known m f i op.RefElementAddr → Row m f i
  ref_element_addr k =
      let it = given_one _ k.keeps in
      let w = found_member (class_field (declarations_of m)) field_address (written 0 i) it.0 it.1 in
      let place = class_member m r w.0.named w.0.ty w.0.field w.0.found in
      row_of m f i (OfValue (Reference w.0.named.owner) ∷ []) (OfPlace (field_shape (declarations_of m) w.0.field) ∷ [])
      (one_operand m f i op.RefElementAddr k (of_parts _ k.operands) w.0.ty w.0.is_at
      ∙ ap (λ t. typed_form (declarations_of m) t ∷ []) place.1
      ∙ ap (λ x. x ∷ []) (value_form (declarations_of m) (type.Named w.0.named.owner) (target-Named w.0.named.owner) ∙ ap OfValue (class_shape m r w.0.named.owner place.2)))
      (gives_form m f i op.RefElementAddr k refl it.0 (ap gives it.1)
      ∙ ap (λ x. x ∷ []) (place_form (declarations_of m) it.0 (stored_as w.0.field.storage w.0.field.ty) (ap target (sym w.1) ∙ target-Address (stored_as w.0.field.storage w.0.field.ty))))
      (row.field_address w.0.named.owner w.0.named _ place.0 (ap effect_of k.op) w.0.is_named refl
      (ap (λ o. part_number_by (detail_of o) (declarations_of m) i) k.op ∙ ap (member_place (declarations_of m)) w.0.is_named ∙ place.3) place.4)
