use Rattle.std.proofs.Common.{◌≡◌, ℕ, subst, sym, []}
use Rattle.sil_cfg.specs.declared.item.Item.TheVariants.{Entry}
use Rattle.sil_cfg.specs.Items.{entry_of}
use Rattle.sil_cfg.specs.inner.Laying.{LaysMore}
use Rattle.sil_cfg.proofs.Numbers.{lays_none, lays_push}
use Rattle.sil_cfg.proofs.build.add_entry.Goals as goal

pub returns-then-b-eq0 : goal.returns-then-b-eq0
returns-then-b-eq0 c =
    let zero : c.args.b.0 ≡ 0 = c.if-b-eq0.true in
    let P : ℕ → Type 0 = λ n. LaysMore c.args.b.0 c.args.block.now c.args.kinds.now.items c.add.new.kinds.items c.args.items.now.items c.add.new.items.items (entry_of n) in
    subst P (sym zero)
    (lays_push _ _ _ _ _ _ _ _ [] Entry (lays_none c.args.b.0 c.args.block.now c.args.kinds.now.items c.args.items.now.items) zero c.in_ok-add.ensures.kinds c.in_ok-add.ensures.number)
