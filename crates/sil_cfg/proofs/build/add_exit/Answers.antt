use Rattle.std.proofs.Common.{◌≡◌, Bool, true, subst, sym, ◌∙◌, [], ◌∷◌, ◌++◌, ap, length, refl}
use Rattle.sil_cfg.specs.declared.item.Item.TheVariants.{Exit}
use Rattle.sil_cfg.specs.Items.{exit_of, point_at, ends_function}
use Rattle.sil_cfg.specs.inner.Laying.{LaysMore}
use Rattle.sil_cfg.proofs.Numbers.{lays_none, lays_push}
use Rattle.sil_cfg.proofs.build.add_exit.Goals as goal

pub returns-then-is_exit : goal.returns-then-is_exit
returns-then-is_exit c =
    let ends : ends_function c.args.block.now.terminator.op ≡ true = sym c.is_exit.ensures ∙ c.if-is_exit.true in
    let P : Bool → Type 0 = λ v. LaysMore c.args.b.0 c.args.block.now c.args.kinds.now.items c.add.new.kinds.items c.args.items.now.items c.add.new.items.items
    (exit_of (point_at c.args.b.0 (length c.args.block.now.insts)) v) in
    subst P (sym ends)
    (lays_push _ _ _ _ _ _ _ _ [] (Exit (point_at c.args.b.0 (length c.args.block.now.insts))) (lays_none c.args.b.0 c.args.block.now c.args.kinds.now.items c.args.items.now.items)
    (refl, (refl, ends)) (c.in_ok-add.ensures.kinds ∙ ap (λ n. c.args.kinds.now.items ++ Exit (point_at c.args.b.0 n) ∷ []) c.len.ensures) c.in_ok-add.ensures.number)
