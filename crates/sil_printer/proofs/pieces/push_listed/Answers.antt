use Rattle.std.proofs.Common.{◌<◌, codes, length, arith}
use Rattle.sil_printer.proofs.Joined.{join_by_step}
use Rattle.sil_printer.proofs.pieces.push_listed.Goals as goal

pub loop-i-preserved : goal.loop-i-preserved
loop-i-preserved g c =
    let within : c.loop-i.i < length c.args.items.now = omega arith in
    join_by_step g.T.Canonical.text (codes ", ") c.args.items.now c.loop-i.i c.index-items-i.result _ _ _ _
    within c.index-items-i.is c.loop-i.invariant c.in_ok-push_separator.ensures c.in_ok-push_to.ensures
