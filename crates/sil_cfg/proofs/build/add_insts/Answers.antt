use Rattle.std.proofs.Common.{◌≡◌, ◌<◌, ◌+◌, suc, List, [], ◌∷◌, ◌++◌, length, take, subst, sym, ap, ◌∙◌, refl, arith}
use Rattle.std.proofs.lemmas.List.{take_all}
use Rattle.sil_ast.specs.declared.inst.Inst as inst
use Rattle.sil_cfg.specs.declared.item.Item.{Item}
use Rattle.sil_cfg.specs.declared.item.Item.TheVariants.{Inst}
use Rattle.sil_cfg.specs.Items.{insts_from, point_at}
use Rattle.sil_cfg.specs.inner.Laying.{LaysMore}
use Rattle.sil_cfg.proofs.Numbers.{lays_push, insts_from_more}
use Rattle.sil_cfg.proofs.build.add_insts.Goals as goal

pub loop-k-preserved : goal.loop-k-preserved
loop-k-preserved c =
    let within : c.loop-k.k < length c.args.block.now.insts = omega arith in
    let one : suc c.loop-k.k ≡ c.loop-k.k + 1 = omega arith in
    let more = sym (insts_from_more c.args.b.0 0 c.args.block.now.insts c.loop-k.k within) ∙ ap (λ n. insts_from c.args.b.0 0 (take n c.args.block.now.insts)) one in
    let P : List Item → Type 0 = λ v. LaysMore c.args.b.0 c.args.block.now c.args.kinds.now.items c.add.new.kinds.items c.args.items.now.items c.add.new.items.items v in
    subst P more
    (lays_push _ _ _ _ _ _ _ _ (insts_from c.args.b.0 0 (take c.loop-k.k c.args.block.now.insts)) (Inst (point_at c.args.b.0 (0 + c.loop-k.k))) c.loop-k.invariant
    (refl, omega arith) (c.in_ok-add.ensures.kinds ∙ ap (λ n. c.loop-k.kinds.items ++ Inst (point_at c.args.b.0 n) ∷ []) (omega arith)) c.in_ok-add.ensures.number)

pub returns : goal.returns
returns c =
    let all : take c.loop-k.k c.args.block.now.insts ≡ c.args.block.now.insts = take_all c.loop-k.k c.args.block.now.insts (omega arith) in
    let P : List inst.Inst → Type 0 = λ v. LaysMore c.args.b.0 c.args.block.now c.args.kinds.now.items c.loop-k.kinds.items c.args.items.now.items c.loop-k.items.items (insts_from c.args.b.0 0 v) in
    subst P all c.loop-k.invariant
