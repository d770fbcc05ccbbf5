use Rattle.std.proofs.Common.{◌<◌, length, arith}
use Rattle.sil_printer.specs.Words.{line_feed}
use Rattle.sil_printer.specs.CanonicalFunctions.{block_text}
use Rattle.sil_printer.proofs.Joined.{join_numbered_step, join_numbered_all}
use Rattle.sil_printer.proofs.functions.push_blocks.Goals as goal

pub loop-k-preserved : goal.loop-k-preserved
loop-k-preserved c =
    let within : c.loop-k.k < length c.args.blocks.now = omega arith in
    join_numbered_step (block_text c.args.functions.now) line_feed c.args.blocks.now c.loop-k.k c.index-blocks-k.result _ _ _ _
    within c.index-blocks-k.is c.loop-k.invariant c.in_ok-push_separator.ensures c.in_ok-push_block.ensures

pub returns : goal.returns
returns c =
    join_numbered_all (block_text c.args.functions.now) line_feed c.args.blocks.now c.loop-k.k _ _ (omega arith) c.loop-k.invariant
