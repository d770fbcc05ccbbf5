use Rattle.std.proofs.Common.{arith, ◌^◌, ◌-◌}
use Rattle.count_machine_leaves.proofs.LeafWindows.Scattered.{begun-more, laid-more, within}
use Rattle.count_machine_leaves.proofs.leaf_windows.carrying.lay_carried.Goals as goal

pub overflow_add-begin : goal.overflow_add-begin
overflow_add-begin c =
    let loop = c.loop-carry in
    let h = within c.args.from c.args.to (2 ^ 64 - 1) c.args.leaves.now loop.leaves c.args.moving.now c.args.values.now loop.carry-index _ loop.begin c.saturating_add-at.result
    c.saturating_add-base.result c.window-size.result.now c.window.result.now c.lay_over.new.leaves
    c.loop-carry-test.true (omega arith) loop.auto.leaves c.requires loop.invariant.begun loop.invariant.laid c.saturating_add-at.ensures c.window-size.ensures c.saturating_add-base.ensures
    c.window.ensures c.lay_over.ensures in
    omega (arith, h)

pub loop-carry-preserved : goal.loop-carry-preserved
loop-carry-preserved c =
    let loop = c.loop-carry in
    let begun = begun-more c.args.from c.args.to (2 ^ 64 - 1) c.args.leaves.now loop.leaves c.args.moving.now c.args.values.now loop.carry-index _ loop.begin c.saturating_add-at.result
    c.saturating_add-base.result c.window-size.result.now c.window.result.now c.lay_over.new.leaves
    c.loop-carry-test.true (omega arith) loop.auto.leaves c.requires loop.invariant.begun loop.invariant.laid c.saturating_add-at.ensures c.window-size.ensures c.saturating_add-base.ensures
    c.window.ensures c.lay_over.ensures in
    let laid = laid-more c.args.from c.args.to (2 ^ 64 - 1) c.args.leaves.now loop.leaves c.args.moving.now c.args.values.now loop.carry-index _ loop.begin c.saturating_add-at.result
    c.saturating_add-base.result c.window-size.result.now c.window.result.now c.lay_over.new.leaves
    c.loop-carry-test.true (omega arith) loop.auto.leaves c.requires loop.invariant.begun loop.invariant.laid c.saturating_add-at.ensures c.window-size.ensures c.saturating_add-base.ensures
    c.window.ensures c.lay_over.ensures in
    record { begun = begun; laid = laid }
