use Rattle.std.proofs.Common.{arith, sym}
use Rattle.count_machine_leaves.proofs.LeafWindows.LaidOver.{laid_more}
use Rattle.count_machine_leaves.proofs.leaf_windows.leaf_lists.lay_over.Goals as goal

pub loop-leaf-preserved : goal.loop-leaf-preserved
loop-leaf-preserved c =
    let more = laid_more c.args.from c.loop-leaf.leaf-index c.args.new.now c.args.leaves.now _ c.loop-leaf-test.true in
    (omega arith, rw (c.loop-leaf.invariant.0, c.loop-leaf.invariant.1) (sym more))
