use Rattle.std.proofs.Common.{arith}
use Rattle.count_machine_leaves.proofs.LeafWindows.LaidOver.{moved_down}
use Rattle.count_machine_leaves.proofs.leaf_windows.leaf_lists.move_down.Goals as goal

pub loop-i-preserved : goal.loop-i-preserved
loop-i-preserved c = rw c.loop-i.invariant (moved_down c.args.from c.args.to c.loop-i.i c.args.leaves.now _ c.requires.below (omega arith))
