-- The row of `builtin`.
use Rattle.std.proofs.Common.{◌≡◌, ℕ, [], ◌∷◌, map, refl, sym, ap, ap₂, ◌∙◌, Bool, true, Option, Some, None}
use Rattle.std.specs.Prelude.{option_and_then, if◌then◌else◌}
use Rattle.instruction_table.specs.declared.op.Op.TheVariants as op
use Rattle.sil_ast.specs.declared.function.Function.{Function}
use Rattle.sil_ast.specs.declared.inst.Inst.{Inst}
use Rattle.sil_ast.specs.declared.module.Module.{Module}
use Rattle.sil_ast.specs.declared.type_name.TypeName.{TypeName}
use Rattle.sil_ast.specs.declared.type_name.TypeName.TheVariants as type
use Rattle.holder_model.specs.Effects.{effect_of}
use Rattle.holder_model.specs.sil_types_declarations.TypeDefinitions.Declarations.{declarations_of}
use Rattle.holder_model.specs.sil_types.Typing.Builtins.{Builtin, Sort, bit, bits, builtin_named, builtin_operands, builtin_result, combining, comparing, operands_by, overflowing, result_by, sort_of}
use Rattle.holder_model.specs.sil_types.Typing.RowTypes.{all_written, gives, gives_builtin, of_builtin}
use Rattle.holder_model.specs.sil_types.Typing.Same.{are_same_types, is_same_type}
use Rattle.holder_model.specs.sil_types.Typing.Shapes.{where_it}
use Rattle.holder_model.specs.holder_model_values.RunValues.Shapes.{Tuple, members_of}
use Rattle.holder_model.specs.RunTyping.Forms.{OfValue}
use Rattle.holder_model.specs.RunTyping.RowForms.{computed_shape, computes, operand_shapes, shape_by, shapes_by}
use Rattle.holder_model_typing.proofs.RunTypingLaws.ShapeFacts.{int_shape, same_types, tuple_shape}
use Rattle.holder_model_typing.proofs.RunTypingLaws.Rows.Finding.{where_found}
use Rattle.holder_model_typing.proofs.RunTypingLaws.Rows.Forms.{typed_form, value_form}
use Rattle.holder_model_typing.proofs.RunTypingLaws.Rows.Known.{Known}
use Rattle.holder_model_typing.proofs.RunTypingLaws.Rows.Layers.{target-Tuple}
use Rattle.holder_model_typing.proofs.RunTypingLaws.Rows.Shares.{Row, all_operands, given_one, gives_form, int_form, of_parts, row_of, same_lists, some_behind, some_where}

module _ (m : Module) where
  operand_forms_by : (s : Sort) (w : ℕ) → map (typed_form (declarations_of m)) (operands_by s (type.Int w)) ≡ map OfValue (shapes_by s w)
  operand_forms_by overflowing w = ap₂ (λ x y. x ∷ x ∷ y ∷ []) (int_form m w) (int_form m 1)
  operand_forms_by comparing w = ap (λ x. x ∷ x ∷ []) (int_form m w)
  operand_forms_by combining w = ap (λ x. x ∷ x ∷ []) (int_form m w)

  result_form_by : (s : Sort) (w : ℕ) → typed_form (declarations_of m) (result_by s (type.Int w)) ≡ OfValue (shape_by s w)
  result_form_by overflowing w =
      value_form (declarations_of m) (type.Tuple (type.Int w ∷ bit ∷ [])) (target-Tuple (type.Int w ∷ bit ∷ []))
      ∙ ap OfValue (tuple_shape m (type.Int w ∷ bit ∷ []) ∙ ap₂ (λ x y. Tuple (members_of (x ∷ y ∷ []))) (int_shape m w) (int_shape m 1))
  result_form_by comparing w = int_form m 1
  result_form_by combining w = int_form m w

  module _ (f : Function) (i : Inst) where
    made : (b : Builtin) (t : TypeName) → option_and_then builtin_named i.text ≡ Some b → are_same_types (all_written i.operands) (builtin_operands b) ≡ true
        → where_it (is_same_type (builtin_result b)) i.ty ≡ Some t → of_builtin i ≡ Some (t ∷ [])
    made b t named same result =
        ap (option_and_then (gives_builtin i i.ty)) named
        ∙ ap₂ (λ (x : Bool) (y : Option TypeName). if x then gives y else None) same result

    pub builtin : Known m f i op.Builtin → Row m f i
    builtin k =
        let it = some_behind (gives_builtin i i.ty) (option_and_then builtin_named i.text) k.keeps in
        let b : Builtin = it.0 in
        let kept = some_where (are_same_types (all_written i.operands) (builtin_operands b)) (gives (where_it (is_same_type (builtin_result b)) i.ty)) it.2 in
        let result = given_one (where_it (is_same_type (builtin_result b)) i.ty) kept.1 in
        let same : builtin_result b ≡ result.0 = same_types (builtin_result b) result.0 (where_found (is_same_type (builtin_result b)) i.ty result.0 result.1).1 in
        row_of m f i (map OfValue (operand_shapes b)) (OfValue (computed_shape b) ∷ [])
        (all_operands m f i op.Builtin k (of_parts _ k.operands) ∙ ap (map (typed_form (declarations_of m))) (same_lists (all_written i.operands) (builtin_operands b) kept.0)
        ∙ operand_forms_by (sort_of b.operation) (bits b.width))
        (gives_form m f i op.Builtin k refl result.0 (made b result.0 it.1 kept.0 result.1)
        ∙ ap (λ t. typed_form (declarations_of m) t ∷ []) (sym same) ∙ ap (λ x. x ∷ []) (result_form_by (sort_of b.operation) (bits b.width)))
        (computes b (ap effect_of k.op) it.1)
