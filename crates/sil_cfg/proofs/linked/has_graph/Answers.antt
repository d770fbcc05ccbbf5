use Rattle.std.proofs.Common.{◌≡◌, ◌<◌, ◌^◌, ℕ, zero, suc, List, length, take, subst, sym, ◌∙◌, refl, false, All, arith}
use Rattle.std.specs.Prelude.{◌==◌}
use Rattle.std.proofs.lemmas.List.{take_all}
use Rattle.std.proofs.lemmas.List.Elements.{All-more}
use Rattle.sil_ast.specs.declared.function.Block.{Block}
use Rattle.sil_cfg.specs.inner.Build.{IsBlockLinked}
use Rattle.sil_cfg.proofs.linked.has_graph.Goals as goal

some_there : (n : ℕ) → (n == 0) ≡ false → 0 < n
some_there zero e = cc
some_there (suc n) e = omega arith

pub loop-block-preserved : goal.loop-block-preserved
loop-block-preserved c =
    let here : IsBlockLinked c.args.f.now c.block-item.result = c.is_linked.ensures.0 c.if-not-is_linked.false in
    All-more (IsBlockLinked c.args.f.now) c.as_slice-blocks.result.now c.loop-block.block-index c.block-item.result c.loop-block-test.true c.loop-block.invariant
    (subst (IsBlockLinked c.args.f.now) c.block-item.is here)

pub returns : goal.returns
returns c = (
  λ _.
      let same : c.as_slice-blocks.result.now ≡ c.args.f.now.blocks = c.as_slice-blocks.ensures in
      let whole : take c.loop-block.block-index c.as_slice-blocks.result.now ≡ c.as_slice-blocks.result.now = take_all c.loop-block.block-index c.as_slice-blocks.result.now (omega arith) in
      let some : 0 < length c.as_slice-blocks.result.now = some_there (length c.as_slice-blocks.result.now) (sym c.is_empty.ensures ∙ c.if-is_empty.false) in
      let few : length c.as_slice-blocks.result.now < 2 ^ 32 = omega arith in
      record {
        body = subst (λ (v : List Block). 0 < length v) same some;
        few_blocks = subst (λ (v : List Block). length v < 2 ^ 32) same few;
        blocks = subst (λ (v : List Block). All (IsBlockLinked c.args.f.now) v) (whole ∙ same) c.loop-block.invariant;
      },
  λ _. refl,
)
