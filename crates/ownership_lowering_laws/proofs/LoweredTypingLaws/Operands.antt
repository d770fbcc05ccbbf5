-- An operand's value has the type that is written at the operand.
use Rattle.std.proofs.Common.{◌≡◌, ℕ, List, sym, ap, ◌∙◌, subst, true, Option, Some}
use Rattle.std.specs.Prelude.{slice_get}
use Rattle.sil_ast.specs.declared.operands.Operand.{Operand}
use Rattle.sil_ast.specs.declared.type_name.TypeName.{TypeName}
use Rattle.holder_model_typing.specs.sil_types.Typing.OperandTypes.{are_as_written, is_as_written, is_as_written_by}
use Rattle.holder_model_typing.specs.sil_types.Typing.Same.{is_same_type}
use Rattle.holder_model_typing.specs.sil_types.Typing.Values.{type_at, type_of_value}
use Rattle.holder_model_typing.proofs.RunTypingLaws.Rows.Finding.{passed, passes_at}
use Rattle.holder_model_typing.proofs.RunTypingLaws.SameTypes.{same_types}

pub typed_at : (types : List (Option TypeName)) (os : List Operand) → are_as_written types os ≡ true → (k : ℕ) (o : Operand) (t : TypeName)
    → slice_get os k ≡ Some o → o.ty ≡ Some t
    → type_at types o.value.0 ≡ Some t
typed_at types os written k o t at typed =
    let here = subst (λ w. is_as_written_by types o w ≡ true) typed (passes_at (is_as_written types) os k o written at) in
    let it = passed (is_same_type t) (type_of_value types o) here in
    it.1 ∙ ap (λ x. Some x) (sym (same_types t it.0 it.2))
