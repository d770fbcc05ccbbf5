use Rattle.std.proofs.Common.{◌≡◌, refl, ap, ◌∙◌, length}
use Rattle.std.specs.Prelude.{◌&&◌, Option, Some, None, is_some, not, option_map}
use Rattle.std.specs.List.{list_all}
use Rattle.sil_types.specs.Typing.OperandTypes.{are_as_asked, are_as_written, edge_is_as_written}
use Rattle.sil_types.specs.Typing.RowTypes.{row_types}
use Rattle.type_check_values.specs.TypingValues.inner.Told.{types_told}
use Rattle.type_check_values.proofs.typing_values.operands.has_wrong_operand_type.Goals as goal

counted : {A B : Type 0} (f : A → B) (o : Option A) → is_some (option_map f o) ≡ is_some o
counted f None = refl
counted f (Some x) = refl

pub returns : goal.returns
returns c = λ d here.
    let inst = c.args.inst.now in
    let types = types_told c.args.types.now in
    ap not (
    c.has_operand_types.ensures
    ∙ ap (λ kept. kept && are_as_written types inst.operands && list_all (edge_is_as_written types) inst.edges && are_as_asked types inst)
    (c.is_kept.ensures ∙ ap is_some here ∙ counted length (row_types d inst)))
