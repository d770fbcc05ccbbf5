use Rattle.std.proofs.Common.{sym, ap, ◌∙◌}
use Rattle.count_machine_layouts.specs.declared.frame_layouts.layout.Kept.TheVariants as kept
use Rattle.count_machine_ready.proofs.MadeOps.{forget_made}
use Rattle.count_machine_ready.proofs.ops.forget_name.Goals as goal

pub returns : goal.returns
returns c =
    forget_made c.args.body.now.m.now c.args.body.now.function.now c.args.inst.now c.requires.has
    c.operand-place.result c.in-Address-default-Some.size c.in-Address-default-Some.storage c.address.result c.operand-place.ensures
    (ap (kept.Address c.in-Address-default-Some.size) (sym c.in-Address-default-Some.storage-is) ∙ c.in-Address-default-Some.ensures) c.address.ensures
