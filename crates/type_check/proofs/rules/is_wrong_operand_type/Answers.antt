use Rattle.std.proofs.Common.{◌≡◌, ap, ◌∙◌}
use Rattle.sil_types.specs.sil_types_declarations.TypeDefinitions.Declarations.{declarations_of}
use Rattle.sil_types.specs.Typing.OperandTypes as operands
use Rattle.sil_types.specs.Typing.Values.{value_types}
use Rattle.type_check_values.specs.TypingValues.inner.Told.{types_told}
use Rattle.type_check.proofs.rules.is_wrong_operand_type.Goals as goal

pub returns : goal.returns
returns c =
    let body = c.args.body.now in
    let inst = c.args.inst.now in
    let types = ap types_told c.as_slice.ensures.value ∙ c.requires.body.facts.types ∙ ap (λ d. value_types d body.function.now) c.requires.body.table in
    c.has_wrong_operand_type.ensures body.table.now c.requires.given ∙ ap (λ ts. operands.has_wrong_operand_type body.table.now ts inst) types
    ∙ ap (λ d. operands.has_wrong_operand_type d (value_types (declarations_of body.module.now) body.function.now) inst) c.requires.body.table
