-- The rows that read and write no memory and look into no declaration but that of a class: literals, functions, builtins, and what is allocated.
use Rattle.std.proofs.Common.{◌≡◌, [], ◌∷◌, refl, sym, ap, ◌∙◌, subst, true, Some, None}
use Rattle.std.specs.Prelude.{IsTrue, option_and_then, option_map}
use Rattle.instruction_table.specs.declared.op.Op.TheVariants as op
use Rattle.numbered_form.specs.inner.Literals.{is_number_of, is_residue, literal_width, width_at}
use Rattle.sil_ast.specs.declared.function.Function.{Function}
use Rattle.sil_ast.specs.declared.inst.Inst.{Inst}
use Rattle.sil_ast.specs.declared.module.Module.{Module}
use Rattle.holder_model.specs.Effects.{effect_of}
use Rattle.holder_model.specs.sil_types_declarations.TypeDefinitions.Declarations.{declarations_of}
use Rattle.holder_model.specs.sil_types_declarations.TypeDefinitions.Rules.{is_class_type}
use Rattle.holder_model.specs.sil_types.Typing.RowTypes.{address_of, gives, written}
use Rattle.holder_model.specs.sil_types.Typing.Shapes.{is_bit, is_integer, target, where_it}
use Rattle.holder_model.specs.holder_model_values.RunValues.Shapes.{Reference, shape_of}
use Rattle.holder_model.specs.RunTyping.Forms.{OfFunction, OfPlace, OfValue, form_by}
use Rattle.holder_model.specs.RunTyping.RowForms.{bit, function, literal, looks, object, removes, slot, traps}
use Rattle.holder_model_typing.specs.RunTypingLaws.inner.WellTyped.{IsWellTyped}
use Rattle.holder_model_typing.proofs.RunTypingLaws.ShapeFacts.{class_type_shape}
use Rattle.holder_model_typing.proofs.RunTypingLaws.Rows.Finding.{found_behind, if_some, some_of, where_found}
use Rattle.numbered_form.proofs.Lists.{mapped_from}
use Rattle.holder_model_typing.proofs.RunTypingLaws.Rows.Forms.{place_form, typed_form, value_form}
use Rattle.holder_model_typing.proofs.RunTypingLaws.Rows.Known.{Known}
use Rattle.holder_model_typing.proofs.RunTypingLaws.Rows.Layers.{bit_type, integer_type, out-Int, target-Address, target-Named}
use Rattle.holder_model_typing.proofs.RunTypingLaws.Rows.Storage.{stored_shape}
use Rattle.holder_model_typing.proofs.RunTypingLaws.Rows.Shares.{Row, given_one, gives_form, int_form, no_operand, of_parts, one_operand, row_of, some_operand, taken_from}

module _ (m : Module) (r : IsWellTyped m) (f : Function) (i : Inst) where
  pub integer_literal : Known m f i op.IntegerLiteral → Row m f i
  integer_literal k =
      let it = given_one (where_it is_integer i.ty) k.keeps in
      let found = where_found is_integer i.ty it.0 it.1 in
      let int = integer_type it.0 found.1 in
      let number = some_of i.number k.number in
      let wide : literal_width i.ty ≡ int.0 = ap literal_width (found.0 ∙ ap Some int.1) ∙ ap width_at (out-Int int.0) in
      let within : is_residue (literal_width i.ty) number.0 ≡ true = if_some (λ x. IsTrue (is_number_of op.IntegerLiteral i.ty x)) i.number number.0 number.1 k.literal in
      row_of m f i [] _ (no_operand m f i op.IntegerLiteral k (of_parts _ k.operands))
      (gives_form m f i op.IntegerLiteral k refl it.0 (ap gives it.1) ∙ ap (λ t. typed_form (declarations_of m) t ∷ []) int.1 ∙ ap (λ x. x ∷ []) (int_form m int.0))
      (literal number.0 int.0 (ap effect_of k.op) number.1 (subst (λ w. is_residue w number.0 ≡ true) wide within))

  pub function_ref : Known m f i op.FunctionRef → Row m f i
  function_ref k =
      let g = some_of i.function k.function in
      row_of m f i [] (OfFunction g.0 ∷ []) (no_operand m f i op.FunctionRef k (of_parts _ k.operands))
      (k.one_result refl ∙ ap (λ x. form_by (declarations_of m) None x ∷ []) g.1)
      (function g.0 (ap effect_of k.op) g.1)

  pub cond_fail : Known m f i op.CondFail → Row m f i
  cond_fail k =
      let it = taken_from (where_it is_bit (written 0 i)) k.keeps in
      let found = where_found is_bit (written 0 i) it.0 it.1 in
      let text = some_of i.text k.text in
      row_of m f i (OfValue bit ∷ []) []
      (one_operand m f i op.CondFail k (of_parts _ k.operands) it.0 found.0 ∙ ap (λ t. typed_form (declarations_of m) t ∷ []) (bit_type it.0 found.1) ∙ ap (λ x. x ∷ []) (int_form m 1))
      (k.no_result refl) (traps text.0 (ap effect_of k.op) text.1)

  pub alloc_ref : Known m f i op.AllocRef → Row m f i
  alloc_ref k =
      let it = given_one (where_it (is_class_type (declarations_of m)) i.ty) k.keeps in
      let found = where_found (is_class_type (declarations_of m)) i.ty it.0 it.1 in
      let class = class_type_shape m r it.0 found.1 in
      row_of m f i [] (OfValue (Reference class.0) ∷ []) (no_operand m f i op.AllocRef k (of_parts _ k.operands))
      (gives_form m f i op.AllocRef k refl it.0 (ap gives it.1)
      ∙ ap (λ x. x ∷ []) (value_form (declarations_of m) it.0 (ap target class.1 ∙ target-Named class.0) ∙ ap OfValue class.3))
      (object class.0 (ap effect_of k.op) class.2)

  pub alloc_stack : Known m f i op.AllocStack → Row m f i
  alloc_stack k =
      let it = given_one (option_map address_of i.ty) k.keeps in
      let inner = mapped_from address_of i.ty it.0 it.1 in
      row_of m f i [] (OfPlace (shape_of (declarations_of m) inner.0) ∷ []) (no_operand m f i op.AllocStack k (of_parts _ k.operands))
      (gives_form m f i op.AllocStack k refl it.0 (ap gives it.1)
      ∙ ap (λ x. x ∷ []) (place_form (declarations_of m) it.0 inner.0 (ap target (sym inner.2) ∙ target-Address inner.0)))
      (let stored = stored_shape m r inner.0 (k.type_placed inner.0 inner.1) in
      slot stored.0 (shape_of (declarations_of m) inner.0) (ap effect_of k.op) stored.1)

  pub dealloc_stack : Known m f i op.DeallocStack → Row m f i
  dealloc_stack k =
      let it = taken_from (option_and_then target (written 0 i)) k.keeps in
      let at = found_behind target (written 0 i) it.0 it.1 in
      row_of m f i (OfPlace (shape_of (declarations_of m) it.0) ∷ []) []
      (one_operand m f i op.DeallocStack k (of_parts _ k.operands) at.0 at.1 ∙ ap (λ x. x ∷ []) (place_form (declarations_of m) at.0 it.0 at.2))
      (k.no_result refl) (removes (shape_of (declarations_of m) it.0) (ap effect_of k.op))

  pub debug_value : Known m f i op.DebugValue → Row m f i
  debug_value k =
      let it = some_operand m f i op.DebugValue k (of_parts _ k.operands) in
      row_of m f i (it.0 ∷ []) [] it.1 (k.no_result refl) (looks it.0 (ap effect_of k.op))
