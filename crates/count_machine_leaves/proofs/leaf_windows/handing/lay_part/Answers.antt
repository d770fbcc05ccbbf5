use Rattle.std.proofs.Common.{◌^◌, ◌-◌, arith}
use Rattle.count_machine_leaves.proofs.LeafWindows.Pieces.{part-laid}
use Rattle.count_machine_leaves.proofs.leaf_windows.handing.lay_part.Goals as goal

pub returns : goal.returns
returns c =
    part-laid c.args.base c.args.operand.at c.args.from c.args.operand.size c.args.to.size c.args.to.at (2 ^ 64 - 1) _ _ _ c.args.leaves.now _
    (omega arith) (omega arith) (omega arith) (omega arith) c.move_over.ensures
