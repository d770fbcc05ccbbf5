use Rattle.std.proofs.Common.{◌<◌, length, arith}
use Rattle.sil_printer.specs.Words.{line_feed}
use Rattle.sil_printer.specs.CanonicalModules.{vtable_text}
use Rattle.sil_printer.proofs.Joined.{each_behind_step}
use Rattle.sil_printer.proofs.modules.push_vtables.Goals as goal

pub loop-vtable-preserved : goal.loop-vtable-preserved
loop-vtable-preserved c =
    let within : c.loop-vtable.vtable-index < length c.args.vtables.now = omega arith in
    each_behind_step line_feed (vtable_text c.args.functions.now) c.args.vtables.now c.loop-vtable.vtable-index c.vtable-item.result _ _ _ _
    within c.vtable-item.is c.loop-vtable.invariant c.in_ok-push_bytes.ensures c.in_ok-push_vtable.ensures
