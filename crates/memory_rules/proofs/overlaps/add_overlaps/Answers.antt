use Rattle.std.proofs.Common.{◌+◌, ◌-◌, drop, length, take, arith}
use Rattle.std.specs.List.{flat_map}
use Rattle.numbered_form.specs.PointChecks.inner.Faults.{least}
use Rattle.memory_rules.specs.inner.StaticFaults.{pair_faults}
use Rattle.memory_rules.specs.Statics.{pairs_of}
use Rattle.memory_rules.proofs.Crossed.{pairs_step, rest_from, some_address}
use Rattle.memory_rules.proofs.overlaps.add_overlaps.Goals as goal

pub loop-i-preserved : goal.loop-i-preserved
loop-i-preserved c =
    let xs = c.args.addresses.now in
    let i = c.loop-i.i in
    let g = pair_faults c.args.m.now c.args.point.block.0 c.args.point.index in
    pairs_step g xs (take (length xs - (i + 1)) (drop (i + 1) xs)) i some_address c.loop-i.found c.add_overlaps_with-found.result (least c.args.found (flat_map g (pairs_of xs)))
    c.loop-i-test.true (rest_from xs (i + 1) (omega arith)) c.loop-i.invariant c.add_overlaps_with-found.ensures
