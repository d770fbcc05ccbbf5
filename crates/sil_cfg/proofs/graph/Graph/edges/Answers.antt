use Rattle.std.proofs.Common.{◌≡◌, ◌<◌, ◌^◌, length, map, subst, sym, ap, ◌∙◌, arith}
use Rattle.std.proofs.lemmas.List.{length-map}
use Rattle.sil_cfg.specs.Layout.{Layout, BlockLayout}
use Rattle.sil_cfg.specs.Flow.{numbered, block_count, edge_count}
use Rattle.sil_cfg.specs.declared.layout.EdgeFlow.{EdgeFlow}
use Rattle.sil_cfg.proofs.BlockReads.{block_read, block_sound}
use Rattle.sil_cfg.proofs.graph.Graph.edges.Goals as goal

pub overflow_cast-result : goal.overflow_cast-result
overflow_cast-result c =
    let Q : Layout → Type 0 = λ g. c.args.b.0 < block_count (numbered g) in
    let within : c.args.b.0 < length c.self.inside.blocks.items = simp length-map at (subst Q (sym c.self.view_is) c.requires) in
    let sound = block_sound c.self.inside.blocks.items c.self.inside.kinds.items c.args.b.0 c.index-block.result.now within (sym c.index-block.ensures) c.self.invariant in
    let few : length c.index-block.result.now.edges.items < 2 ^ 32 = sound.few_edges in
    omega arith

pub returns : goal.returns
returns c =
    let Q : Layout → Type 0 = λ g. c.args.b.0 < block_count (numbered g) in
    let within : c.args.b.0 < length c.self.inside.blocks.items = simp length-map at (subst Q (sym c.self.view_is) c.requires) in
    let read = block_read c.self.inside.blocks.items c.self.inside.kinds.items c.args.b.0 c.index-block.result.now within (sym c.index-block.ensures) in
    let P : Layout → Type 0 = λ g. c.len.result ≡ edge_count (numbered g) c.args.b.0 in
    let count : c.len.result ≡ length c.index-block.result.now.edges.items = omega arith in
    subst P c.self.view_is (count ∙ sym (ap (λ (x : BlockLayout). length (map (λ (e : EdgeFlow). e.target) x.edges)) read ∙ simp length-map))
