use Rattle.std.proofs.Common.{sym, ap, ◌∙◌}
use Rattle.count_machine_layouts.specs.declared.frame_layouts.layout.Kept.TheVariants as kept
use Rattle.count_machine_ready.proofs.MadeOps.{store_made, store_name_made}
use Rattle.count_machine_ready.proofs.ops.store.Goals as goal

pub returns-in-Address-default-None : goal.returns-in-Address-default-None
returns-in-Address-default-None c =
    store_made c.args.body.now.m.now c.args.body.now.function.now c.args.inst.now c.requires.has
    c.operand.result c.operand-place.result c.in-Address-default-None.size c.local-from.result c.address-address.result
    c.operand.ensures c.operand-place.ensures
    (ap (kept.Address c.in-Address-default-None.size) (sym c.in-Address-default-None.storage-is)
    ∙ c.in-Address-default-None.ensures) c.local-from.ensures c.address-address.ensures

pub returns-in-Address-default-Some : goal.returns-in-Address-default-Some
returns-in-Address-default-Some c =
    store_name_made c.args.body.now.m.now c.args.body.now.function.now c.args.inst.now c.requires.has
    c.operand.result c.operand-place.result c.in-Address-default-Some.size c.in-Address-default-Some.storage
    c.is_first.result c.local-from.result c.address-address.result
    c.operand.ensures c.operand-place.ensures (ap (kept.Address c.in-Address-default-Some.size) (sym c.in-Address-default-Some.storage-is)
    ∙ c.in-Address-default-Some.ensures) c.is_first.ensures c.local-from.ensures c.address-address.ensures
