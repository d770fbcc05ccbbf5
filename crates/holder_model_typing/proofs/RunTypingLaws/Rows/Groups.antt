-- The rows that make a struct, a tuple or a case of an enum.
use Rattle.std.proofs.Common.{◌≡◌, List, [], ◌∷◌, map, refl, ap, ap₂, ◌∙◌, Bool, true, false, not, Option, Some, None}
use Rattle.std.specs.Prelude.{◌&&◌, ◌||◌, ◌==◌, option_and_then, option_map, length, slice_get, if◌then◌else◌}
use Rattle.std.specs.List.{list_all}
use Rattle.std.specs.Option.{option_to_list}
use Rattle.std.proofs.lemmas.Bool.{and_parts}
use Rattle.instruction_table.specs.declared.forms.Part.TheVariants as part
use Rattle.instruction_table.specs.declared.op.Op.{Op}
use Rattle.instruction_table.specs.declared.op.Op.TheVariants as op
use Rattle.numbered_form.specs.Lists.{is_empty}
use Rattle.numbered_form.specs.inner.Parts.{are_of_parts, is_typed}
use Rattle.numbered_form.specs.inner.Types.{IsPlainType, is_plain_type}
use Rattle.sil_ast.specs.declared.function.Function.{Function}
use Rattle.sil_ast.specs.declared.inst.Inst.{Inst}
use Rattle.sil_ast.specs.declared.member.Member.{Member}
use Rattle.sil_ast.specs.declared.module.Module.{Module}
use Rattle.sil_ast.specs.declared.operands.Operand.{Operand}
use Rattle.sil_ast.specs.declared.type_name.TypeName.{TypeName}
use Rattle.sil_ast.specs.declared.type_name.TypeName.TheVariants as type
use Rattle.holder_model.specs.Effects.{effect_of}
use Rattle.holder_model.specs.ModuleShapes.{case_place}
use Rattle.holder_model.specs.sil_types_declarations.TypeDefinitions.Declarations.{declarations_of}
use Rattle.holder_model.specs.sil_types_declarations.TypeDefinitions.Lookups.{Payload}
use Rattle.holder_model.specs.sil_types.Typing.RowTypes.{all_written, are_elements, are_field_types, gives, is_made_by_case, is_payload, is_struct_of}
use Rattle.holder_model.specs.sil_types.Typing.Shapes.{case_in, field_type, fields_of_struct, is_enum, is_object, where_it}
use Rattle.holder_model.specs.holder_model_values.RunValues.Layers.{CaseLayer}
use Rattle.holder_model.specs.holder_model_values.RunValues.Shapes.{Shape, Tuple, case_shapes, members_of, shape_of}
use Rattle.holder_model.specs.RunTyping.Forms.{OfValue, forms_of}
use Rattle.holder_model.specs.RunTyping.RowForms.{chooses_full, chooses_plain, groups, tuple}
use Rattle.holder_model_typing.specs.RunTypingLaws.inner.WellTyped.{IsWellTyped}
use Rattle.holder_model_typing.proofs.RunTypingLaws.MemberFacts.{case_found, enum_is, struct_group}
use Rattle.holder_model_typing.proofs.RunTypingLaws.ShapeFacts.{field_shape_of, tuple_shape}
use Rattle.holder_model_typing.proofs.RunTypingLaws.Sizes.{plain_type}
use Rattle.holder_model_typing.proofs.RunTypingLaws.Rows.Addresses.{no_target, payload_target, struct_forms}
use Rattle.holder_model_typing.proofs.RunTypingLaws.Rows.Finding.{found_behind, if_some, passed, where_found}
use Rattle.holder_model_typing.proofs.RunTypingLaws.Rows.Forms.{typed_form, value_form}
use Rattle.holder_model_typing.proofs.RunTypingLaws.Rows.Known.{Known}
use Rattle.holder_model_typing.proofs.RunTypingLaws.Rows.Layers.{object_target, target-Tuple}
use Rattle.holder_model_typing.proofs.RunTypingLaws.Rows.Shares.{Row, all_operands, given_one, gives_form, of_parts, row_of, same_lists, some_where}

module _ (m : Module) (r : IsWellTyped m) (f : Function) (i : Inst) where
  -- the type behind the instruction's name is plain, so that a value of it is none of an address
  plain_there : (o : Op) → Known m f i o → (t : TypeName) → i.ty ≡ Some t → is_plain_type t ≡ true
  plain_there o k t e = (if_some IsPlainType i.ty t e k.types.ty).written

  pub struct : Known m f i op.Struct → Row m f i
  struct k =
      let ts = all_written i.operands in
      let it = given_one (where_it (is_struct_of (declarations_of m) ts) i.ty) k.keeps in
      let found = where_found (is_struct_of (declarations_of m) ts) i.ty it.0 it.1 in
      let fields = passed (are_field_types ts) (fields_of_struct (declarations_of m) it.0) found.1 in
      let same : ts ≡ map field_type fields.0 = same_lists ts (map field_type fields.0) fields.2 in
      row_of m f i (map OfValue (map (field_shape_of m) fields.0)) (OfValue (shape_of (declarations_of m) it.0) ∷ [])
      (all_operands m f i op.Struct k (of_parts _ k.operands) ∙ ap (map (typed_form (declarations_of m))) same ∙ struct_forms m r it.0 fields.0 fields.1)
      (gives_form m f i op.Struct k refl it.0 (ap gives it.1)
      ∙ ap (λ x. x ∷ []) (value_form (declarations_of m) it.0 (no_target it.0 (plain_type it.0 (plain_there op.Struct k it.0 found.0)))))
      (groups _ _ (ap effect_of k.op) (struct_group m r it.0 fields.0 fields.1))

  object_forms : (ts : List TypeName) → list_all is_object ts ≡ true → map (typed_form (declarations_of m)) ts ≡ map OfValue (map (shape_of (declarations_of m)) ts)
  object_forms [] h = refl
  object_forms (t ∷ ts) h =
      let both = and_parts (is_object t) (list_all is_object ts) h in
      ap₂ (λ x y. x ∷ y) (value_form (declarations_of m) t (object_target t both.0)) (object_forms ts both.1)

  pub tuple_of : Known m f i op.Tuple → Row m f i
  tuple_of k =
      let ts = all_written i.operands in
      let kept = some_where (are_elements ts) (Some (type.Tuple ts ∷ [])) k.keeps in
      let objects = (and_parts (not (length ts == 1)) (list_all is_object ts) kept.0).1 in
      row_of m f i (map OfValue (map (shape_of (declarations_of m)) ts)) (OfValue (Tuple (members_of (map (shape_of (declarations_of m)) ts))) ∷ [])
      (all_operands m f i op.Tuple k (of_parts _ k.operands) ∙ object_forms ts objects)
      (gives_form m f i op.Tuple k refl (type.Tuple ts) (ap (λ (b : Bool). if b then Some (type.Tuple ts ∷ []) else None) kept.0)
      ∙ ap (λ x. x ∷ []) (value_form (declarations_of m) (type.Tuple ts) (target-Tuple ts) ∙ ap OfValue (tuple_shape m ts)))
      (groups _ _ (ap effect_of k.op) (tuple (map (shape_of (declarations_of m)) ts)))

  -- the payload that is there has a type
  payload_typed : (os : List Operand) → (are_of_parts (part.Typed ∷ []) os || is_empty os) ≡ true → list_all is_typed os ≡ true
  payload_typed [] e = refl
  payload_typed (o ∷ []) e = let both = and_parts (is_typed o) true (of_parts (is_typed o && true) e) in ap (λ b. b && true) both.0
  payload_typed (o ∷ p ∷ os) e = let both = and_parts (is_typed o) false (of_parts (is_typed o && false) e) in absurd (cc)

  -- the row by the payload of the case that is found
  chosen : Known m f i op.Enum → (named : Member) (t : TypeName) (p : Payload) (c : CaseLayer Shape) (payload : Option TypeName) → p.ty ≡ payload → i.member ≡ Some named
      → is_enum (declarations_of m) t ≡ true → is_plain_type t ≡ true → case_in (declarations_of m) named t ≡ Some p → all_written i.operands ≡ option_to_list payload
      → forms_of (declarations_of m) f i.results ≡ OfValue (shape_of (declarations_of m) t) ∷ []
      → case_place (shape_of (declarations_of m) t) (Some named) ≡ Some p.place → slice_get (case_shapes (shape_of (declarations_of m) t)) p.place ≡ Some c
      → c.payload ≡ option_map (shape_of (declarations_of m)) payload → Row m f i
  chosen k named t p c None ty member enum plain found same result place there has =
      row_of m f i [] (OfValue (shape_of (declarations_of m) t) ∷ [])
      (all_operands m f i op.Enum k (payload_typed i.operands k.operands) ∙ ap (map (typed_form (declarations_of m))) same) result
      (chooses_plain _ p.place c (ap effect_of k.op) (enum_is m r t enum) (ap (case_place (shape_of (declarations_of m) t)) member ∙ place) there has)
  chosen k named t p c (Some u) ty member enum plain found same result place there has =
      row_of m f i (OfValue (shape_of (declarations_of m) u) ∷ []) (OfValue (shape_of (declarations_of m) t) ∷ [])
      (all_operands m f i op.Enum k (payload_typed i.operands k.operands) ∙ ap (map (typed_form (declarations_of m))) same
      ∙ ap (λ x. x ∷ []) (value_form (declarations_of m) u (payload_target m r named t p u (plain_type t plain) found ty)))
      result
      (chooses_full _ _ p.place c (ap effect_of k.op) (enum_is m r t enum) (ap (case_place (shape_of (declarations_of m) t)) member ∙ place) there has)

  pub enum : Known m f i op.Enum → Row m f i
  enum k =
      let ts = all_written i.operands in
      let test = λ (t : TypeName). is_enum (declarations_of m) t && is_made_by_case (declarations_of m) i t in
      let it = given_one (where_it test i.ty) k.keeps in
      let found = where_found test i.ty it.0 it.1 in
      let both = and_parts (is_enum (declarations_of m) it.0) (is_made_by_case (declarations_of m) i it.0) found.1 in
      let made = passed (is_payload ts) (option_and_then (λ n. case_in (declarations_of m) n it.0) i.member) both.1 in
      let named = found_behind (λ n. case_in (declarations_of m) n it.0) i.member made.0 made.1 in
      let plain = plain_there op.Enum k it.0 found.0 in
      let place = case_found m r named.0 it.0 made.0 named.2 in
      chosen k named.0 it.0 made.0 place.0 made.0.ty refl named.1 both.0 plain named.2 (same_lists ts (option_to_list made.0.ty) made.2)
      (gives_form m f i op.Enum k refl it.0 (ap gives it.1) ∙ ap (λ x. x ∷ []) (value_form (declarations_of m) it.0 (no_target it.0 (plain_type it.0 plain))))
      place.1 place.2 place.3
