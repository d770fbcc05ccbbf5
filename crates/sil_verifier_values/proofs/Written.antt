-- The types of operands: those that are written at them, or asked by their row.
use Rattle.std.proofs.Common.{◌≡◌, ap, sym, ◌∙◌, subst, true, Some}
use Rattle.holder_model_typing.proofs.RunTypingLaws.Rows.Finding.{passed}
use Rattle.holder_model_typing.proofs.RunTypingLaws.ShapeFacts.{same_types}
use Rattle.sil_ast.specs.declared.function.Function.{Function}
use Rattle.sil_ast.specs.declared.operands.Operand.{Operand}
use Rattle.sil_ast.specs.declared.type_name.TypeName.{TypeName}
use Rattle.holder_model_typing.specs.sil_types.Typing.OperandTypes.{has_type, is_as_written, is_as_written_by}
use Rattle.holder_model_typing.specs.sil_types.Typing.Same.{is_same_type}
use Rattle.holder_model_typing.specs.sil_types.Typing.Values.{type_of_value, value_types}
use Rattle.holder_model_typing.specs.sil_types_declarations.TypeDefinitions.Declarations.{Declarations}
use Rattle.sil_verifier_values.specs.inner.Known.{type_in}

pub asked_type : (d : Declarations) (f : Function) (o : Operand) (t : TypeName) → has_type (value_types d f) o t ≡ true → type_in d f o.value ≡ Some t
asked_type d f o t e =
    let it = passed (is_same_type t) (type_of_value (value_types d f) o) e in
    it.1 ∙ ap (λ u. Some u) (sym (same_types t it.0 it.2))

pub written_type : (d : Declarations) (f : Function) (o : Operand) (t : TypeName) → o.ty ≡ Some t → is_as_written (value_types d f) o ≡ true → type_in d f o.value ≡ Some t
written_type d f o t e h = asked_type d f o t (subst (λ x. is_as_written_by (value_types d f) o x ≡ true) e h)
