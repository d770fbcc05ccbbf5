use Rattle.ownership_kinds_origins.proofs.Noting.{blocks_more}
use Rattle.ownership_kinds_origins.proofs.switching.note_blocks.Goals as goal

pub loop-block-preserved : goal.loop-block-preserved
loop-block-preserved c =
    blocks_more c.args.blocks.now c.loop-block.block-index c.block-item.result c.args.table.now c.loop-block.table c.note_block.new.table c.loop-block-test.true c.block-item.is c.loop-block.auto.table
    c.loop-block.invariant c.note_block.ensures
