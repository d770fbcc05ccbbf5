use Rattle.std.proofs.Common.{sym, ap, ◌∙◌}
use Rattle.sil_ast.specs.declared.type_name.TypeName.TheVariants.{Tuple}
use Rattle.sil_types.specs.Typing.RowTypes.{all_written}
use Rattle.sil_types.specs.Typing.Same.{are_same_types, is_same_type}
use Rattle.type_check_rows.proofs.Pairing.{same-Tuple}
use Rattle.type_check_rows.proofs.same_view.is_tuple_of.Goals as goal

pub returns-in-Tuple : goal.returns-in-Tuple
returns-in-Tuple c =
    let types = all_written c.args.operands.now in
    c.are_written.ensures
    ∙ ap (λ parts. are_same_types parts types) (c.as_slice.ensures ∙ c.get.ensures)
    ∙ sym (same-Tuple c.in-Tuple.parts types)
    ∙ ap (λ t. is_same_type t (Tuple types)) (sym c.in-Tuple.is)
