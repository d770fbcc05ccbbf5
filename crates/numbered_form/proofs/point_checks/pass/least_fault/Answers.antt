use Rattle.std.proofs.Common.{◌<◌, ◌^◌, None, ap, get_or, length, subst, sym, ◌∙◌}
use Rattle.numbered_form.specs.PointChecks.inner.Faults.{block_faults, faults_of, least}
use Rattle.numbered_form.proofs.PointChecks.Least.{numbered_item}
use Rattle.numbered_form.proofs.PointChecks.Short.{are_short}
use Rattle.numbered_form.proofs.point_checks.pass.least_fault.Goals as goal

pub loop-number-preserved : goal.loop-number-preserved
loop-number-preserved g c =
    let args = g.C.PointCheck.args_faults c.args.check.now c.args.f.now in
    let insts = g.C.PointCheck.inst_faults c.args.check.now c.args.f.now in
    let n = c.loop-number.number in
    let all = c.as_slice-block-items.ensures in
    numbered_item (block_faults args insts) c.args.f.now.blocks n n c.block-item.result c.loop-number.found c.in_ok-found.found (least None (faults_of args insts c.args.f.now))
    (subst (λ bs. n < length bs) all c.loop-number-test.true) (c.block-item.is ∙ ap (λ bs. get_or bs n c.block-item.result) all) c.loop-number.invariant c.in_ok-found.ensures

pub add_block-requires-clause-short : goal.add_block-requires-clause-short
add_block-requires-clause-short g c =
    let n = c.loop-number.number in
    let x = c.block-item.result in
    let all = c.as_slice-block-items.ensures in
    subst (λ b. length b.insts < 2 ^ 32) (sym (c.block-item.is ∙ ap (λ bs. get_or bs n x) all))
    (are_short c.args.f.now c.requires.of_module n x (subst (λ bs. n < length bs) all c.loop-number-test.true))
