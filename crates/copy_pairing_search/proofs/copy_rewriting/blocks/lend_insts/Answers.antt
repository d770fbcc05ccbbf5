use Rattle.std.proofs.Common.{◌<◌, ap, ◌∙◌, length, arith}
use Rattle.std.proofs.Math.ListN.{set}
use Rattle.std.proofs.lemmas.List.Edits.{map_over_more}
use Rattle.copy_pairing_model.specs.Rewritten.{lent_inst}
use Rattle.copy_pairing_search.proofs.copy_rewriting.blocks.lend_insts.Goals as goal

pub loop-k-preserved : goal.loop-k-preserved
loop-k-preserved c =
    let within : c.loop-k.k < length c.args.insts.now.items = omega arith in
    ap (set c.loop-k.insts.items c.loop-k.k) c.in_ok-lend_inst.ensures
    ∙ map_over_more (lent_inst c.args.value) c.args.insts.now.items c.loop-k.insts.items c.loop-k.k c.index_mut.result.now within c.loop-k.invariant c.index_mut.ensures.value
