use Rattle.std.proofs.Common.{◌<◌, codes, length, arith}
use Rattle.sil_printer.specs.CanonicalInsts.{bare_text}
use Rattle.sil_printer.proofs.Joined.{join_by_step}
use Rattle.sil_printer.proofs.operands.push_bare_args.Goals as goal

pub loop-i-preserved : goal.loop-i-preserved
loop-i-preserved c =
    let within : c.loop-i.i < length c.args.operands.now = omega arith in
    join_by_step bare_text (codes ", ") c.args.operands.now c.loop-i.i c.index-operands-i.result _ _ _ _
    within c.index-operands-i.is c.loop-i.invariant c.in_ok-push_separator.ensures c.in_ok-push_to.ensures
