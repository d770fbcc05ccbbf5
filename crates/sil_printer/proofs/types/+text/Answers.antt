use Rattle.std.proofs.Common.{◌<◌, codes, length, arith}
use Rattle.sil_printer.specs.CanonicalTypes.{type_text}
use Rattle.sil_printer.proofs.Joined.{join_by_step}
use Rattle.sil_printer.proofs.types.+text.Goals as goal

pub push_tuple-loop-i-preserved : goal.push_tuple-loop-i-preserved
push_tuple-loop-i-preserved t c =
    let within : c.loop-i.i < length c.args.elements.now = omega arith in
    join_by_step type_text (codes ", ") c.args.elements.now c.loop-i.i c.index-elements-i.result _ _ _ _
    within c.index-elements-i.is c.loop-i.invariant c.in_ok-push_separator.ensures c.in_ok-push_type.ensures
