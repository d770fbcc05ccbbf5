use Rattle.std.proofs.Common.{arith}
use Rattle.count_machine_leaves.proofs.LeafWindows.LaidOver.{moved_up_by}
use Rattle.count_machine_leaves.proofs.leaf_windows.leaf_lists.move_up.Goals as goal

pub loop-i-preserved : goal.loop-i-preserved
loop-i-preserved c =
    let inv = c.loop-i.invariant in
    let step = moved_up_by c.args.from c.args.to c.loop-i.i c.args.count c.loop-i.leaves c.args.leaves.now _
    c.requires.above c.requires.within c.loop-i-test.true inv.0 inv.1 in
    (omega arith, step)
