use Rattle.std.proofs.Common.{ℕ, List, subst}
use Rattle.sil_cfg.specs.Items.{entry_of}
use Rattle.sil_cfg.specs.inner.Laying.{LaysMore}
use Rattle.sil_cfg.proofs.Numbers.{lays_block}
use Rattle.sil_cfg.proofs.build.lay_block.Goals as goal

pub returns : goal.returns
returns c =
    let P : List ℕ → Type 0 = λ v. LaysMore c.args.b.0 c.args.block.now c.args.kinds.now.items c.add_entry.new.kinds.items v c.add_entry.new.items.items (entry_of c.args.b.0) in
    lays_block c.args.b.0 c.args.block.now _ _ _ _ _ _ _ _ _ _ (subst P c.in_ok-items.ensures.items c.in_ok-add_entry.ensures) c.in_ok-add_insts.ensures c.in_ok-add_exit.ensures
    c.in_ok-edges.ensures.adds c.in_ok-edges.ensures.edges c.len-2.ensures
