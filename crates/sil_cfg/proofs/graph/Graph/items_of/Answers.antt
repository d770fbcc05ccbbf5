use Rattle.std.proofs.Common.{◌<◌, length, List, ℕ, All, subst, sym}
use Rattle.std.proofs.lemmas.List.{length-map}
use Rattle.sil_cfg.specs.Layout.{Layout, item_count}
use Rattle.sil_cfg.specs.Flow.{numbered, block_count}
use Rattle.sil_cfg.proofs.BlockReads.{block_sound}
use Rattle.sil_cfg.proofs.graph.Graph.items_of.Goals as goal

pub returns-clause-below : goal.returns-clause-below
returns-clause-below c =
    let Q : Layout → Type 0 = λ g. c.args.b.0 < block_count (numbered g) in
    let within : c.args.b.0 < length c.self.inside.blocks.items = simp length-map at (subst Q (sym c.self.view_is) c.requires) in
    let sound = block_sound c.self.inside.blocks.items c.self.inside.kinds.items c.args.b.0 c.index-block.result.now within (sym c.index-block.ensures) c.self.invariant in
    let P : Layout → Type 0 = λ g. All (λ i. i < item_count g) c.as_slice.result.now in
    let R : List ℕ → Type 0 = λ v. All (λ i. i < length c.self.inside.kinds.items) v in
    subst P c.self.view_is (subst R (sym c.as_slice.ensures.value) sound.items)
