use Rattle.std.proofs.Common.{◌<◌, ap, ◌∙◌, length, arith}
use Rattle.std.proofs.Math.ListN.{set}
use Rattle.std.proofs.lemmas.List.Edits.{map_over_more}
use Rattle.copy_pairing_model.specs.Rewritten.{lent_block}
use Rattle.copy_pairing_search.proofs.copy_rewriting.functions.lend_blocks.Goals as goal

pub loop-b-preserved : goal.loop-b-preserved
loop-b-preserved c =
    let within : c.loop-b.b < length c.args.blocks.now.items = omega arith in
    ap (set c.loop-b.blocks.items c.loop-b.b) c.in_ok-lend_block.ensures
    ∙ map_over_more (lent_block c.args.value) c.args.blocks.now.items c.loop-b.blocks.items c.loop-b.b c.index_mut.result.now within c.loop-b.invariant c.index_mut.ensures.value
