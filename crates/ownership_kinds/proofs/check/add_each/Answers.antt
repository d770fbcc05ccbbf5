use Rattle.std.specs.List.{flat_map}
use Rattle.numbered_form.specs.PointChecks.inner.Faults.{least}
use Rattle.numbered_form.proofs.PointChecks.Least.{least_item, least_two}
use Rattle.ownership_kinds.specs.inner.Faults.{annotation_faults, arg_faults, ring_faults}
use Rattle.ownership_kinds.specs.inner.Known.{kind_told}
use Rattle.ownership_kinds.proofs.check.add_each.Goals as goal

pub loop-arg-preserved : goal.loop-arg-preserved
loop-arg-preserved c =
    let k = c.args.check.now in
    let kinds = kind_told k.facts.now in
    let n = c.args.block.0 in
    let x = c.arg-item.result in
    least_item (arg_faults kinds k.ring k.types.now c.args.switched n) c.args.args.now c.loop-arg.arg-index x c.loop-arg.found c.add_annotation-found.result
    (least c.args.found (flat_map (arg_faults kinds k.ring k.types.now c.args.switched n) c.args.args.now)) c.loop-arg-test.true c.arg-item.is c.loop-arg.invariant
    (least_two c.loop-arg.found c.add_ring-found.result c.add_annotation-found.result (ring_faults k.ring n 0 x.value)
    (annotation_faults kinds k.types.now c.args.switched n x) c.add_ring-found.ensures c.add_annotation-found.ensures)
