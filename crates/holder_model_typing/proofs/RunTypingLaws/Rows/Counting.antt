-- The rows that count references, which stand in lowered form alone.
use Rattle.std.proofs.Common.{◌≡◌, ℕ, [], ◌∷◌, refl, ap, ◌∙◌, true, false, not, Some}
use Rattle.std.specs.Prelude.{slice_get}
use Rattle.std.proofs.lemmas.Bool.{and_parts}
use Rattle.instruction_table.specs.declared.op.Op.{Op}
use Rattle.instruction_table.specs.declared.op.Op.TheVariants as op
use Rattle.sil_ast.specs.declared.function.Function.{Function}
use Rattle.sil_ast.specs.declared.inst.Inst.{Inst}
use Rattle.sil_ast.specs.declared.module.Module.{Module}
use Rattle.sil_ast.specs.declared.type_name.TypeName.{TypeName}
use Rattle.holder_model.specs.Effects.{effect_of}
use Rattle.holder_model.specs.sil_types_declarations.TypeDefinitions.Declarations.{declarations_of}
use Rattle.holder_model.specs.sil_types_declarations.TypeDefinitions.Measures.{is_trivial}
use Rattle.holder_model.specs.sil_types_declarations.TypeDefinitions.Rules.{is_class_type, is_misplaced_value}
use Rattle.holder_model.specs.sil_types.Typing.RowTypes.{is_counted_value, type_of, written}
use Rattle.holder_model.specs.sil_types.Typing.Shapes.{is_nontrivial, is_object, target, where_it}
use Rattle.holder_model.specs.holder_model_values.RunValues.Shapes.{shape_of}
use Rattle.holder_model.specs.RunTyping.Forms.{OfValue, has_no_storage}
use Rattle.holder_model.specs.RunTyping.RowForms.{drops, retains}
use Rattle.holder_model_typing.specs.RunTypingLaws.inner.WellTyped.{IsWellTyped}
use Rattle.holder_model_typing.proofs.RunTypingLaws.ShapeFacts.{class_type_shape, no_storage_shape}
use Rattle.holder_model_typing.proofs.RunTypingLaws.Rows.Finding.{found_behind, where_found}
use Rattle.holder_model_typing.proofs.RunTypingLaws.Rows.Forms.{typed_form, value_form}
use Rattle.holder_model_typing.proofs.RunTypingLaws.Rows.Known.{Known}
use Rattle.holder_model_typing.proofs.RunTypingLaws.Rows.Layers.{object_target, target-Named}
use Rattle.holder_model_typing.proofs.RunTypingLaws.Rows.Shares.{Row, of_parts, one_operand, row_of, taken_from}
use Rattle.holder_model_typing.proofs.RunTypingLaws.Rows.Storage.{class_holds_none, object_holds_none}

-- no storage stands in a type that is written at an operand but directly behind an address
pub placed_at : (m : Module) (f : Function) (i : Inst) (o : Op) → Known m f i o → (n : ℕ) (t : TypeName) → written n i ≡ Some t → is_misplaced_value (declarations_of m) t ≡ false
placed_at m f i o k n t e =
    let it = found_behind type_of (slice_get i.operands n) t e in
    k.placed n it.0 t it.1 it.2

module _ (m : Module) (r : IsWellTyped m) where
  -- a value without storage
  pub record IsCounted (t : TypeName) : Type 0 where
    pub form : typed_form (declarations_of m) t ≡ OfValue (shape_of (declarations_of m) t)
    pub holds_none : has_no_storage (shape_of (declarations_of m) t) ≡ true

  class_counted : (t : TypeName) → is_class_type (declarations_of m) t ≡ true → IsCounted t
  class_counted t e =
      let class = class_type_shape m r t e in
      record { form = value_form (declarations_of m) t (ap target class.1 ∙ target-Named class.0); holds_none = class_holds_none m r t e }

  pub object_counted : (t : TypeName) → is_object t ≡ true → is_misplaced_value (declarations_of m) t ≡ false → IsCounted t
  object_counted t e placed = record {
    form = value_form (declarations_of m) t (object_target t e);
    holds_none = no_storage_shape m r t (object_holds_none (declarations_of m) t e placed);
  }

  is_counted_object : (t : TypeName) → is_counted_value (declarations_of m) t ≡ true → is_object t ≡ true
  is_counted_object t e =
      (and_parts (is_object t) (not (is_trivial (declarations_of m) t)) (and_parts (is_nontrivial (declarations_of m) t) (not (is_class_type (declarations_of m) t)) e).0).0

  module _ (f : Function) (i : Inst) where
    pub strong_retain : Known m f i op.StrongRetain → Row m f i
    strong_retain k =
        let it = taken_from (where_it (is_class_type (declarations_of m)) (written 0 i)) k.keeps in
        let found = where_found (is_class_type (declarations_of m)) (written 0 i) it.0 it.1 in
        let counted = class_counted it.0 found.1 in
        row_of m f i (OfValue (shape_of (declarations_of m) it.0) ∷ []) []
        (one_operand m f i op.StrongRetain k (of_parts _ k.operands) it.0 found.0 ∙ ap (λ x. x ∷ []) counted.form)
        (k.no_result refl) (retains _ (ap effect_of k.op) counted.holds_none)

    pub strong_release : Known m f i op.StrongRelease → Row m f i
    strong_release k =
        let it = taken_from (where_it (is_class_type (declarations_of m)) (written 0 i)) k.keeps in
        let found = where_found (is_class_type (declarations_of m)) (written 0 i) it.0 it.1 in
        let counted = class_counted it.0 found.1 in
        row_of m f i (OfValue (shape_of (declarations_of m) it.0) ∷ []) []
        (one_operand m f i op.StrongRelease k (of_parts _ k.operands) it.0 found.0 ∙ ap (λ x. x ∷ []) counted.form)
        (k.no_result refl) (drops _ (ap effect_of k.op) counted.holds_none)

    pub retain_value : Known m f i op.RetainValue → Row m f i
    retain_value k =
        let it = taken_from (where_it (is_counted_value (declarations_of m)) (written 0 i)) k.keeps in
        let found = where_found (is_counted_value (declarations_of m)) (written 0 i) it.0 it.1 in
        let counted = object_counted it.0 (is_counted_object it.0 found.1) (placed_at m f i op.RetainValue k 0 it.0 found.0) in
        row_of m f i (OfValue (shape_of (declarations_of m) it.0) ∷ []) []
        (one_operand m f i op.RetainValue k (of_parts _ k.operands) it.0 found.0 ∙ ap (λ x. x ∷ []) counted.form)
        (k.no_result refl) (retains _ (ap effect_of k.op) counted.holds_none)

    pub release_value : Known m f i op.ReleaseValue → Row m f i
    release_value k =
        let it = taken_from (where_it (is_counted_value (declarations_of m)) (written 0 i)) k.keeps in
        let found = where_found (is_counted_value (declarations_of m)) (written 0 i) it.0 it.1 in
        let counted = object_counted it.0 (is_counted_object it.0 found.1) (placed_at m f i op.ReleaseValue k 0 it.0 found.0) in
        row_of m f i (OfValue (shape_of (declarations_of m) it.0) ∷ []) []
        (one_operand m f i op.ReleaseValue k (of_parts _ k.operands) it.0 found.0 ∙ ap (λ x. x ∷ []) counted.form)
        (k.no_result refl) (drops _ (ap effect_of k.op) counted.holds_none)
