use Rattle.std.proofs.Common.{◌≡◌, ap, ◌∙◌}
use Rattle.numbered_form.specs.Insts.{insts_of}
use Rattle.numbered_form.specs.PointChecks.inner.Faults.{block_faults, least, numbered}
use Rattle.numbered_form.proofs.PointChecks.Least.{least_two, numbered_last, ok_along}
use Rattle.numbered_form.proofs.point_checks.pass.add_block.Goals as goal

pub returns : goal.returns
returns g c =
    let args = g.C.PointCheck.args_faults c.args.check.now c.args.f.now in
    let insts = g.C.PointCheck.inst_faults c.args.check.now c.args.f.now in
    let n = c.args.number.0 in
    let b = c.args.block.now in
    ok_along c.add_inst.result (λ r. r ≡ least c.in_ok-found.found (insts n c.len.result b.terminator)) (λ r. r ≡ least c.args.found (block_faults args insts n b))
    (λ r e.
    least_two c.args.found c.add_args-found.result r (args n b) (numbered (insts n) 0 (insts_of b)) c.add_args-found.ensures
    (numbered_last (insts n) b.insts b.terminator c.len.result c.add_args-found.result c.in_ok-found.found r c.len.ensures
    (c.in_ok-found.ensures ∙ ap (λ is. least c.add_args-found.result (numbered (insts n) 0 is)) c.as_slice.ensures) e))
    c.add_inst.ensures
