use Rattle.std.proofs.Common.{ap, ◌∙◌}
use Rattle.sil_types.specs.Typing.ResultCounts as results
use Rattle.type_check.proofs.rules.is_wrong_result_count.Goals as goal

pub returns : goal.returns
returns c =
    let body = c.args.body.now in
    let inst = c.args.inst.now in
    c.has_wrong_result_count.ensures body.table.now c.requires.given ∙ ap (λ d. results.has_wrong_result_count d inst) c.requires.body.table
