-- The rows that load and store values. In lowered form no word in brackets stands at them.
use Rattle.std.proofs.Common.{◌≡◌, [], ◌∷◌, refl, ap, ap₂, ◌∙◌, subst, true, false, Some}
use Rattle.std.specs.Prelude.{option_and_then, take}
use Rattle.std.specs.Option.{option_to_list}
use Rattle.instruction_table.specs.declared.op.Op.TheVariants as op
use Rattle.sil_ast.specs.declared.function.Form.TheVariants.{Lowered}
use Rattle.sil_ast.specs.declared.function.Function.{Function}
use Rattle.sil_ast.specs.declared.inst.Inst.{Inst}
use Rattle.sil_ast.specs.declared.inst.Qualifier.{Qualifier}
use Rattle.sil_ast.specs.declared.inst.Qualifier.TheVariants as word
use Rattle.sil_ast.specs.declared.module.Module.{Module}
use Rattle.sil_ast.specs.declared.type_name.TypeName.{TypeName}
use Rattle.holder_model.specs.Effects.{effect_of}
use Rattle.holder_model.specs.memory_rules_accesses.Operations.{access_kind_of, operation_by}
use Rattle.holder_model.specs.sil_types_declarations.TypeDefinitions.Declarations.{declarations_of}
use Rattle.holder_model.specs.sil_types_declarations.TypeDefinitions.Rules.{is_misplaced_value}
use Rattle.holder_model.specs.sil_types.Typing.FormRules.{has_no_word}
use Rattle.holder_model.specs.sil_types.Typing.OperandTypes.{has_type}
use Rattle.holder_model.specs.sil_types.Typing.RowTypes.{gives, written}
use Rattle.holder_model.specs.sil_types.Typing.Same.{all_pairs}
use Rattle.holder_model.specs.sil_types.Typing.Shapes.{is_object, object_at, target}
use Rattle.holder_model.specs.sil_types.Typing.Values.{value_types}
use Rattle.holder_model.specs.holder_model_values.RunValues.Shapes.{shape_of}
use Rattle.holder_model.specs.RunTyping.EndForms.{operand_forms}
use Rattle.holder_model.specs.RunTyping.Forms.{OfPlace, OfValue, forms_of, has_no_storage}
use Rattle.holder_model.specs.RunTyping.RowForms.{loads, stores}
use Rattle.holder_model_typing.specs.RunTypingLaws.inner.WellTyped.{IsWellTyped}
use Rattle.holder_model_typing.proofs.RunTypingLaws.ShapeFacts.{no_storage_shape}
use Rattle.holder_model_typing.proofs.RunTypingLaws.Rows.Counting.{placed_at}
use Rattle.holder_model_typing.proofs.RunTypingLaws.Rows.Finding.{found_behind, where_found}
use Rattle.holder_model_typing.proofs.RunTypingLaws.Rows.Forms.{place_form, typed_form, value_form}
use Rattle.holder_model_typing.proofs.RunTypingLaws.Rows.Known.{Known, in_lowered}
use Rattle.holder_model_typing.proofs.RunTypingLaws.Rows.Layers.{object_target}
use Rattle.holder_model_typing.proofs.RunTypingLaws.Rows.Shares.{Row, given_one, gives_form, of_parts, one_operand, row_of, taken_from, two_operands}
use Rattle.holder_model_typing.proofs.RunTypingLaws.Rows.Storage.{behind_address, object_in_storage}

no_word : (q : Qualifier) → has_no_word q ≡ true → q ≡ word.Plain
no_word word.Plain e = refl
no_word word.Copy e = absurd (cc)
no_word word.Take e = absurd (cc)
no_word word.Trivial e = absurd (cc)
no_word word.Init e = absurd (cc)
no_word word.Assign e = absurd (cc)

module _ (m : Module) (r : IsWellTyped m) where
  -- an object at an address
  pub record IsPlaceOf (t inner : TypeName) : Type 0 where
    pub place : typed_form (declarations_of m) t ≡ OfPlace (shape_of (declarations_of m) inner)
    pub value : typed_form (declarations_of m) inner ≡ OfValue (shape_of (declarations_of m) inner)
    pub holds_none : has_no_storage (shape_of (declarations_of m) inner) ≡ true

  pub object_place : (t inner : TypeName) → object_at t ≡ Some inner → is_misplaced_value (declarations_of m) t ≡ false → IsPlaceOf t inner
  object_place t inner e placed =
      let found = where_found is_object (target t) inner e in
      record {
        place = place_form (declarations_of m) t inner found.0;
        value = value_form (declarations_of m) inner (object_target inner found.1);
        holds_none = no_storage_shape m r inner (object_in_storage (declarations_of m) inner found.1 (behind_address (declarations_of m) t inner found.0 placed));
      }

  module _ (f : Function) (i : Inst) where
    -- what a load takes and gives: the address of an object, and the object
    pub record IsLoaded : Type 0 where
      pub ty : TypeName
      pub taken : operand_forms (declarations_of m) f i ≡ OfPlace (shape_of (declarations_of m) ty) ∷ []
      pub given : forms_of (declarations_of m) f i.results ≡ OfValue (shape_of (declarations_of m) ty) ∷ []
      pub holds_none : has_no_storage (shape_of (declarations_of m) ty) ≡ true

    pub loaded : Known m f i op.Load → IsLoaded
    loaded k =
        let it = given_one (option_and_then object_at (written 0 i)) k.keeps in
        let at = found_behind object_at (written 0 i) it.0 it.1 in
        let whole = object_place at.0 it.0 at.2 (placed_at m f i op.Load k 0 at.0 at.1) in
        record {
          ty = it.0;
          taken = one_operand m f i op.Load k (of_parts _ k.operands) at.0 at.1 ∙ ap (λ x. x ∷ []) whole.place;
          given = gives_form m f i op.Load k refl it.0 (ap gives it.1) ∙ ap (λ x. x ∷ []) whole.value;
          holds_none = whole.holds_none;
        }

    -- what a store takes: an object, and the address of one of its type
    pub record IsStored : Type 0 where
      pub ty : TypeName
      pub taken : operand_forms (declarations_of m) f i ≡ OfValue (shape_of (declarations_of m) ty) ∷ OfPlace (shape_of (declarations_of m) ty) ∷ []
      pub holds_none : has_no_storage (shape_of (declarations_of m) ty) ≡ true

    pub stored : Known m f i op.Store → IsStored
    stored k =
        let it = taken_from (option_and_then object_at (written 1 i)) k.keeps in
        let at = found_behind object_at (written 1 i) it.0 it.1 in
        let whole = object_place at.0 it.0 at.2 (placed_at m f i op.Store k 1 at.0 at.1) in
        let asked = subst (λ t. all_pairs (has_type (value_types (declarations_of m) f)) (take 1 i.operands) (option_to_list t) ≡ true) it.1 k.asked in
        record {
          ty = it.0;
          taken = two_operands m f i op.Store k (of_parts _ k.operands) it.0 at.0 at.1 asked ∙ ap₂ (λ x y. x ∷ y ∷ []) whole.value whole.place;
          holds_none = whole.holds_none;
        }

    pub load : f.form ≡ Lowered → Known m f i op.Load → Row m f i
    load lowered k =
        let it = loaded k in
        row_of m f i _ _ it.taken it.given
        (loads _ (ap effect_of k.op) (ap₂ (λ o q. operation_by (access_kind_of o) q) k.op (no_word i.qualifier (in_lowered m f i op.Load k lowered))) it.holds_none)

    pub store : f.form ≡ Lowered → Known m f i op.Store → Row m f i
    store lowered k =
        let it = stored k in
        row_of m f i _ [] it.taken (k.no_result refl)
        (stores _ (ap effect_of k.op) (ap₂ (λ o q. operation_by (access_kind_of o) q) k.op (no_word i.qualifier (in_lowered m f i op.Store k lowered))) it.holds_none)
