-- What typing says of a struct or tuple that is taken apart: no member has the shape of the whole, and a struct's fields are found at their places by
-- their names.
use Rattle.std.proofs.Common.{◌≡◌, ℕ, suc, ◌+◌, ◌<◌, List, [], ◌∷◌, length, map, append-nil, refl, sym, ap, ap₂, ◌∙◌, subst, arith, Some, None}
use Rattle.std.specs.Prelude.{option_and_then, option_map, pos, slice_get, unwrap_or}
use Rattle.std.specs.List.{flat_map}
use Rattle.std.specs.Option.{option_to_list}
use Rattle.std.proofs.lemmas.List.{length-map}
use Rattle.std.proofs.lemmas.Option.{slice_get-map}
use Rattle.instruction_table.specs.declared.op.Op.{Op}
use Rattle.instruction_table.specs.declared.op.Op.TheVariants as op
use Rattle.sil_cfg_items.specs.Parts.{inst_at}
use Rattle.numbered_form.specs.Names.{Name, field_name}
use Rattle.sil_ast.specs.declared.decl.Decl.TheVariants as decl
use Rattle.sil_ast.specs.declared.decl.Field.{Field}
use Rattle.sil_ast.specs.declared.function.Function.{Function}
use Rattle.sil_ast.specs.declared.inst.Inst.{Inst}
use Rattle.sil_ast.specs.declared.member.Member.{Member}
use Rattle.sil_ast.specs.declared.module.Module.{Module}
use Rattle.sil_ast.specs.declared.operands.Operand.{Operand}
use Rattle.sil_ast.specs.declared.place.PointId.{PointId}
use Rattle.sil_ast.specs.declared.type_name.TypeName.{TypeName}
use Rattle.sil_ast.specs.declared.type_name.TypeName.TheVariants as type
use Rattle.sil_types_declarations.specs.TypeDefinitions.Declarations.{Declarations, decl_of, declarations_of, place_of, superclass_found}
use Rattle.sil_types_declarations.specs.TypeDefinitions.Lookups.{FoundField, chain_fields, decl_fields, field_at_place, inherited_fields, own_fields}
use Rattle.holder_model_values.specs.RunValues.Shapes as shape
use Rattle.holder_model_values.specs.RunValues.Shapes.{Shape, Shapes, shape_of}
use Rattle.sil_verifier_runs.specs.sil_verifier_values.inner.Known.{IsAcceptedBody}
use Rattle.sil_verifier_runs.specs.holder_model.RunTyping.Forms.{OfValue, form_of}
use Rattle.sil_verifier_runs.specs.holder_model.RunTyping.RowForms.{IsGroup}
use Rattle.ownership_lowering_laws.specs.holder_model_typing.RunTypingLaws.inner.WellTyped.{IsWellTyped}
use Rattle.sil_types.specs.Typing.RowTypes.{given_by, type_of, written}
use Rattle.sil_types.specs.Typing.Shapes.{element_at, elements, field_type, fields_of_struct, name_in, target, target_in}
use Rattle.memory_rules_accesses.specs.Sources.{member_place}
use Rattle.ownership_lowering_laws.specs.ownership_lowering_model.Extracts.{member_of, members_named, members_of_struct}
use Rattle.ownership_lowering_laws.proofs.LoweredTypingLaws.Fields.{members_once}
use Rattle.sil_verifier_runs.proofs.sil_verifier_values.Accepted.{well_typed}
use Rattle.ownership_lowering_laws.proofs.holder_model_typing.RunTypingLaws.ClassChains.{no_ancestors}
use Rattle.ownership_lowering_laws.proofs.holder_model_typing.RunTypingLaws.Found.{place_once}
use Rattle.ownership_lowering_laws.proofs.holder_model_typing.RunTypingLaws.MemberFacts.{struct_group, struct_named}
use Rattle.ownership_lowering_laws.proofs.holder_model_typing.RunTypingLaws.Rows.Addresses.{element_target, struct_forms}
use Rattle.ownership_lowering_laws.proofs.holder_model_typing.RunTypingLaws.Rows.Finding.{found_behind, some_of}
use Rattle.numbered_form.proofs.Lists.{mapped_from}
use Rattle.ownership_lowering_laws.proofs.holder_model_typing.RunTypingLaws.Rows.Forms.{typed_form, value_form}
use Rattle.ownership_lowering_laws.proofs.holder_model_typing.RunTypingLaws.Rows.Known.{Known, known}
use Rattle.ownership_lowering_laws.proofs.holder_model_typing.RunTypingLaws.Rows.Layers.{target-Tuple, tuple_type}
use Rattle.ownership_lowering_laws.proofs.holder_model_typing.RunTypingLaws.Rows.Members.{placed_so}
use Rattle.ownership_lowering_laws.proofs.holder_model_typing.RunTypingLaws.Rows.Shares.{of_parts, one_operand}
use Rattle.ownership_lowering_laws.proofs.holder_model_typing.RunTypingLaws.ShapeFacts.{field_shape_of, tuple_shape}
use Rattle.ownership_lowering_laws.proofs.holder_model_typing.RunTypingLaws.TextClasses.{chains_end}
use Rattle.ownership_lowering_laws.proofs.holder_model_typing.RunTypingLaws.ValueForms.{value_forms}
use Rattle.ownership_lowering_runs.proofs.StoredRuns.Typed.TypedInsts.{operand_forms, result_forms}

-- ---- a shape is finite

abbrev mutual
  -- how many structs and tuples stand in the shape, one in the other
  pub size_of : Shape → ℕ
  size_of (shape.Integer width) = 0
  size_of (shape.Reference class) = 0
  size_of (shape.Struct name fields) = suc (sizes_of fields)
  size_of (shape.Tuple elements) = suc (sizes_of elements)
  size_of (shape.Enum name cases) = 0
  size_of (shape.Stored storage inner) = 0
  size_of shape.Unknown = 0

  pub sizes_of : Shapes → ℕ
  sizes_of shape.NoMember = 0
  sizes_of (shape.Member first others) = size_of first + sizes_of others

-- a whole is larger than its members together
pub members_smaller : (u : Shape) (us : List Shape) → IsGroup u us → sizes_of (shape.members_of us) < size_of u
members_smaller _ _ (IsGroup.struct name us) = let less : sizes_of (shape.members_of us) < suc (sizes_of (shape.members_of us)) = omega arith in less
members_smaller _ _ (IsGroup.tuple us) = let less : sizes_of (shape.members_of us) < suc (sizes_of (shape.members_of us)) = omega arith in less

-- ---- the fields of a struct, by their names

abbrev place_found : FoundField → ℕ
place_found g = g.place

-- a struct with these fields, each of which is found at its place
pub record FieldsFound (d : Declarations) (t : TypeName) (fields : List Field) : Type 0 where
  pub name : Name
  pub members : members_of_struct d t ≡ map (member_of name) fields
  pub places : (k : ℕ) (y : Field) → slice_get fields k ≡ Some y → member_place d (Some (member_of name y)) ≡ Some k

-- two lists are as long as one another where they become the same one by one
pub as_long : {A B C : Type 0} (g : A → C) (h : B → C) (xs : List A) (ys : List B) → map g xs ≡ map h ys → length xs ≡ length ys
as_long g h xs ys e = sym (length-map xs g) ∙ ap length e ∙ length-map ys h

module _ (m : Module) (n : ℕ) (f : Function) (a : IsAcceptedBody m n f) where
  abbrev d : Declarations
  d = declarations_of m

  r : IsWellTyped m
  r = well_typed m a.verified

  field_placed : (name own_name : Name) (fields : List Field) → decl_of d name ≡ Some (decl.Struct own_name fields) → (k : ℕ) (y : Field) → slice_get fields k ≡ Some y
      → member_place d (Some (member_of name y)) ≡ Some k
  field_placed name own_name fields declared k y there =
      let none_above : inherited_fields d name ≡ [] = ap (chain_fields d) (no_ancestors d (chains_end m r) name (ap superclass_found declared)) in
      let own : own_fields d name ≡ fields = ap decl_fields declared in
      let place : place_of (map field_name fields) y.name ≡ Some k = place_once field_name fields k y (members_once m a.verified.numbered name (decl.Struct own_name fields) declared) there in
      let number : 0 + k ≡ k = omega arith in
      ap₂ (λ above fs. option_map place_found (field_at_place (length above) fs (place_of (map field_name fs) y.name))) none_above own
      ∙ ap (λ o. option_map place_found (field_at_place 0 fields o)) place
      ∙ ap (λ o. option_map place_found (option_map (λ g. record { place = 0 + k; field = g }) o)) there
      ∙ ap Some number

  fields_found : (t : TypeName) (fields : List Field) → fields_of_struct d t ≡ Some fields → FieldsFound d t fields
  fields_found t fields e =
      let s = struct_named m t fields e in
      record {
        name = s.0;
        members = ap (λ layer. flat_map (members_named d t) (option_to_list (name_in layer))) s.2
            ∙ append-nil (members_named d t s.0)
            ∙ ap (λ o. map (member_of s.0) (unwrap_or o [])) e;
        places = field_placed s.0 s.1 fields s.3;
      }

  -- ---- what is taken apart

  module _ (p : PointId) (i : Inst) (here : inst_at f p ≡ Some i) where
    -- the shapes of the whole and of its members
    pub record ApartSo : Type 0 where
      pub whole : Shape
      pub parts : List Shape
      pub group : IsGroup whole parts
      pub ins : operand_forms m f i ≡ OfValue whole ∷ []
      pub outs : result_forms m f i ≡ map OfValue parts

    known_by : (o : Op) → i.op ≡ o → Known m f i o
    known_by o is = subst (Known m f i) is (known m r n f a.body.there p i here)

    -- a struct, whose type is written
    pub record StructApart : Type 0 where
      pub so : ApartSo
      pub ty : TypeName
      pub is_written : written 0 i ≡ Some ty
      pub fields : List Field
      pub found : FieldsFound d ty fields
      pub as_many : length i.results ≡ length fields

    pub struct_taken_apart : i.op ≡ op.DestructureStruct → StructApart
    struct_taken_apart is =
        let k = known_by op.DestructureStruct is in
        let made = some_of (given_by op.DestructureStruct d i) k.keeps in
        let at = found_behind (λ t. option_map (map field_type) (fields_of_struct d t)) (written 0 i) made.0 made.1 in
        let fields = mapped_from (map field_type) (fields_of_struct d at.0) made.0 at.2 in
        let results : result_forms m f i ≡ map (typed_form d) (map field_type fields.0) =
        k.all_results refl made.0 made.1 ∙ ap (map (typed_form d)) (sym fields.2) in
        record {
          so = record {
            whole = shape_of d at.0;
            parts = map (field_shape_of m) fields.0;
            group = struct_group m r at.0 fields.0 fields.1;
            ins = one_operand m f i op.DestructureStruct k (of_parts _ k.operands) at.0 at.1
                ∙ ap (λ x. x ∷ []) (value_form d at.0 (ap target_in (struct_named m at.0 fields.0 fields.1).2));
            outs = results ∙ struct_forms m r at.0 fields.0 fields.1;
          };
          ty = at.0;
          is_written = at.1;
          fields = fields.0;
          found = fields_found at.0 fields.0 fields.1;
          as_many = as_long (form_of d f) (typed_form d) i.results (map field_type fields.0) results ∙ length-map fields.0 field_type;
        }

    pub tuple_taken_apart : i.op ≡ op.DestructureTuple → ApartSo
    tuple_taken_apart is =
        let k = known_by op.DestructureTuple is in
        let made = some_of (given_by op.DestructureTuple d i) k.keeps in
        let at = found_behind elements (written 0 i) made.0 made.1 in
        let whole : at.0 ≡ type.Tuple made.0 = tuple_type at.0 made.0 at.2 in
        record {
          whole = shape.Tuple (shape.members_of (map (shape_of d) made.0));
          parts = map (shape_of d) made.0;
          group = IsGroup.tuple (map (shape_of d) made.0);
          ins = one_operand m f i op.DestructureTuple k (of_parts _ k.operands) at.0 at.1
              ∙ ap (λ t. typed_form d t ∷ []) whole
              ∙ ap (λ x. x ∷ []) (value_form d (type.Tuple made.0) (target-Tuple made.0) ∙ ap OfValue (tuple_shape m made.0));
          outs = k.all_results refl made.0 made.1 ∙ value_forms d made.0 (part_target k at.0 made.0 at.1 at.2);
        }
      where
        part_target : Known m f i op.DestructureTuple → (t : TypeName) (ts : List TypeName) → written 0 i ≡ Some t → elements t ≡ Some ts
            → (j : ℕ) (u : TypeName) → slice_get ts j ≡ Some u → target u ≡ None
        part_target k t ts is_there parts j u there =
            element_target (Some (pos j)) t u (placed_so m r f i op.DestructureTuple k 0 t is_there)
            (ap (option_and_then (λ us. element_at us (Some (pos j)))) parts ∙ there)

    -- the members of a struct's type stand at their places among those that its written type has
    pub members_placed : (x : StructApart) (o : Operand) → i.operands ≡ o ∷ []
        → flat_map (members_of_struct d) (option_to_list o.ty) ≡ map (member_of x.found.name) x.fields
    members_placed x o one =
        let ty : o.ty ≡ Some x.ty = ap (λ os. option_and_then type_of (slice_get os 0)) (sym one) ∙ x.is_written in
        ap (λ t. flat_map (members_of_struct d) (option_to_list t)) ty ∙ append-nil (members_of_struct d x.ty) ∙ x.found.members

    pub member_found : (x : StructApart) (o : Operand) → i.operands ≡ o ∷ [] → (k : ℕ) (named : Member)
        → slice_get (flat_map (members_of_struct d) (option_to_list o.ty)) k ≡ Some named → member_place d (Some named) ≡ Some k
    member_found x o one k named there =
        let y = mapped_from (member_of x.found.name) (slice_get x.fields k) named
        (sym (slice_get-map (member_of x.found.name) x.fields k) ∙ ap (λ ms. slice_get ms k) (sym (members_placed x o one)) ∙ there) in
        ap (λ n. member_place d (Some n)) (sym y.2) ∙ x.found.places k y.0 y.1
