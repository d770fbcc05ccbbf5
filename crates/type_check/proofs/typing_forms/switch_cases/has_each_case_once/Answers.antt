use Rattle.std.proofs.Common.{false, sym, ap, ◌∙◌, arith}
use Rattle.std.specs.Prelude.{slice_index_or}
use Rattle.std.specs.List.{list_all, range_with_len}
use Rattle.sil_types.specs.Typing.SwitchRules.{has_number, places_of}
use Rattle.type_check.proofs.TypingForms.MetCases.{same_below, without_default}
use Rattle.type_check.proofs.typing_forms.switch_cases.has_each_case_once.Goals as goal

pub returns-else-has_default : goal.returns-else-has_default
returns-else-has_default c =
    let ns = places_of c.args.table.now c.args.ty.now c.args.edges.now in
    c.are_met.ensures
    ∙ same_below (λ k. slice_index_or c.in-Some.met k false) (has_number ns) 0 c.case_count.result (λ k lt. c.in-Some.ensures.met k (omega (arith, c.case_count.ensures.few)))
    ∙ ap (λ n. list_all (has_number ns) (range_with_len 0 n)) c.case_count.ensures.exact
    ∙ sym (without_default _ _ _ (sym c.in-Some.ensures.once) (sym c.if-has_default.ensures))
