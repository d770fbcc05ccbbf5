use Rattle.std.proofs.Common.{◌≡◌, ◌<◌, ◌+◌, ℕ, List, [], ◌∷◌, ◌++◌, length, get_or, map, subst, sym, ap, ◌∙◌, refl, Some, arith}
use Rattle.std.specs.List.{slice_get}
use Rattle.std.proofs.lemmas.List.{map-append}
use Rattle.std.proofs.lemmas.Option.{slice_get_read}
use Rattle.sil_ast.specs.declared.function.Block.{Block}
use Rattle.sil_ast.specs.declared.function.Function.{Function}
use Rattle.sil_cfg.specs.Layout.{BlockLayout, block_of}
use Rattle.sil_cfg.specs.inner.Laying.{AreLaid}
use Rattle.sil_cfg.specs.inner.Build.{HasGraph, IsBlockLinked}
use Rattle.sil_cfg.proofs.Blocks.{all_get, laid_more, laid_graph, laid_sound}
use Rattle.sil_cfg.proofs.build.build_blocks.Goals as goal

block_there : (f : Function) (items : List Block) (b : ℕ) (block : Block) → items ≡ f.blocks → b < length items → block ≡ get_or items b block → slice_get f.blocks b ≡ Some block
block_there f items b block same within is = ap (λ v. slice_get v b) (sym same) ∙ slice_get_read items (length items) b block refl within is

block_linked : (f : Function) (items : List Block) (b : ℕ) (block : Block) → HasGraph f → items ≡ f.blocks → b < length items → block ≡ get_or items b block → IsBlockLinked f block
block_linked f items b block has same within is = all_get (IsBlockLinked f) f.blocks b block has.blocks (block_there f items b block same within is)

pub lay_block-requires-clause-insts : goal.lay_block-requires-clause-insts
lay_block-requires-clause-insts c =
    (block_linked c.args.f.now c.as_slice-block-items.result.now c.loop-b.b c.block-item.result c.requires c.loop-b.invariant.same c.loop-b-test.true c.block-item.is).short

pub lay_block-requires-clause-edges : goal.lay_block-requires-clause-edges
lay_block-requires-clause-edges c =
    (block_linked c.args.f.now c.as_slice-block-items.result.now c.loop-b.b c.block-item.result c.requires c.loop-b.invariant.same c.loop-b-test.true c.block-item.is).few_edges

pub loop-b-preserved : goal.loop-b-preserved
loop-b-preserved c =
    let there = block_there c.args.f.now c.as_slice-block-items.result.now c.loop-b.b c.block-item.result c.loop-b.invariant.same c.loop-b-test.true c.block-item.is in
    let laid = laid_more c.args.f.now c.loop-b.kinds.items c.lay_block.new.kinds.items (map block_of c.loop-b.blocks.items) c.loop-b.b c.block-item.result (block_of c.in_ok-laid.laid)
    c.loop-b.invariant.laid there c.in_ok-laid.ensures in
    let blocks : map block_of c.push.new.self.items ≡ map block_of c.loop-b.blocks.items ++ block_of c.in_ok-laid.laid ∷ [] =
    ap (map block_of) c.in_ok-push.ensures.items ∙ map-append block_of c.loop-b.blocks.items (c.in_ok-laid.laid ∷ []) in
    let P : List BlockLayout → Type 0 = λ v. AreLaid c.args.f.now c.lay_block.new.kinds.items v (c.loop-b.b + 1) in
    record { laid = subst P (sym blocks) laid; same = c.loop-b.invariant.same }

pub returns-clause-graph : goal.returns-clause-graph
returns-clause-graph c =
    let all : c.loop-b.b ≡ length c.args.f.now.blocks = (let e : c.loop-b.b ≡ length c.as_slice-block-items.result.now = omega arith in e ∙ ap length c.as_slice-block-items.ensures) in
    laid_graph c.args.f.now c.loop-b.kinds.items (map block_of c.loop-b.blocks.items) c.loop-b.b c.loop-b.invariant.laid all

pub returns-clause-sound : goal.returns-clause-sound
returns-clause-sound c =
    let all : c.loop-b.b ≡ length c.args.f.now.blocks = (let e : c.loop-b.b ≡ length c.as_slice-block-items.result.now = omega arith in e ∙ ap length c.as_slice-block-items.ensures) in
    laid_sound c.args.f.now c.loop-b.kinds.items (map block_of c.loop-b.blocks.items) c.loop-b.b c.requires c.loop-b.invariant.laid all
