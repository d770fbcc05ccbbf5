use Rattle.std.proofs.Common.{◌≡◌, ◌+◌, ◌<◌, ◌^◌, ◌++◌, ◌∷◌, [], List, Some, length, map, refl, sym, ap, ◌∙◌, subst, arith}
use Rattle.std.specs.Prelude.{replicate}
use Rattle.std.proofs.lemmas.List.{length-replicate, map-append}
use Rattle.holder_model_values.specs.declared.run_values.leaf.Leaf.{Leaf}
use Rattle.holder_model_values.specs.declared.run_values.leaf.Leaf.TheVariants.{Blank}
use Rattle.count_heap.specs.PooledLeaves.Pieces.{IsChanged, Pieces}
use Rattle.count_heap.specs.declared.pooled_leaves.piece.Piece.{Piece}
use Rattle.count_heap.specs.PooledLeaves.inner.Layout.{AreFreeListed, IsPool, piece_size, pieces_in}
use Rattle.count_heap.proofs.PooledLeaves.Freed.{more_listed}
use Rattle.count_heap.proofs.PooledLeaves.Pools.{added_laid, added_view}
use Rattle.count_heap.proofs.pooled_leaves.pool.LeafPool.add.Goals as goal

pub invariant_of-self-2 : goal.invariant_of-self-2
invariant_of-self-2 c =
    let leaves = c.self.inside.leaves.items in
    let pieces = c.self.inside.pieces.items in
    let new : Piece = record { first = c.in_ok-first.first; size = c.args.size; depth = 0; next = 0 } in
    let more : List Leaf = replicate c.args.size Blank in
    let few : length pieces + 1 < 2 ^ 32 = omega arith in
    let items : c.push_reserved.new.self.items ≡ pieces ++ new ∷ [] = c.push_reserved.ensures.items ∙ ap (λ ps. ps ++ new ∷ []) c.in_ok-reserve.ensures.items in
    let listed : AreFreeListed pieces c.add_stack.new.tops.items = subst (λ ps. AreFreeListed ps c.add_stack.new.tops.items) c.deref.ensures.value c.in_ok-add_stack.ensures.listed in
    subst (λ ps. IsPool c.add_leaves.new.leaves.items ps c.add_stack.new.tops.items) (sym items)
    (subst (λ ls. IsPool ls (pieces ++ new ∷ []) c.add_stack.new.tops.items) (sym c.in_ok-first.ensures.ok)
    (record {
      laid_out = added_laid leaves pieces c.self.invariant.laid_out more new refl c.in_ok-first.ensures.first (sym (length-replicate c.args.size Blank));
      listed = more_listed pieces c.add_stack.new.tops.items listed new refl c.in_ok-add_stack.ensures.ok few;
    }))

pub returns-clause-ok : goal.returns-clause-ok
returns-clause-ok c =
    let leaves = c.self.inside.leaves.items in
    let pieces = c.self.inside.pieces.items in
    let new : Piece = record { first = c.in_ok-first.first; size = c.args.size; depth = 0; next = 0 } in
    let more : List Leaf = replicate c.args.size Blank in
    let items : c.push_reserved.new.self.items ≡ pieces ++ new ∷ [] = c.push_reserved.ensures.items ∙ ap (λ ps. ps ++ new ∷ []) c.in_ok-reserve.ensures.items in
    let place : length pieces ≡ c.len-p.result = omega arith in
    subst (λ v. IsChanged v (pieces_in c.add_leaves.new.leaves.items c.push_reserved.new.self.items) c.len-p.result (Some (replicate c.args.size Blank))) c.self.view_is
    (subst (λ ls. IsChanged (pieces_in leaves pieces) (pieces_in ls c.push_reserved.new.self.items) c.len-p.result (Some (replicate c.args.size Blank))) (sym c.in_ok-first.ensures.ok)
    (subst (λ ps. IsChanged (pieces_in leaves pieces) (pieces_in (leaves ++ more) ps) c.len-p.result (Some (replicate c.args.size Blank))) (sym items)
    (subst (λ n. IsChanged (pieces_in leaves pieces) (pieces_in (leaves ++ more) (pieces ++ new ∷ [])) n (Some (replicate c.args.size Blank))) place
    (added_view leaves pieces c.self.invariant.laid_out more new refl c.in_ok-first.ensures.first (sym (length-replicate c.args.size Blank))))))

pub returns-clause-grown : goal.returns-clause-grown
returns-clause-grown c =
    let pieces = c.self.inside.pieces.items in
    let new : Piece = record { first = c.in_ok-first.first; size = c.args.size; depth = 0; next = 0 } in
    let items : c.push_reserved.new.self.items ≡ pieces ++ new ∷ [] = c.push_reserved.ensures.items ∙ ap (λ ps. ps ++ new ∷ []) c.in_ok-reserve.ensures.items in
    ap (map piece_size) items ∙ map-append piece_size pieces (new ∷ []) ∙ ap (λ (v : Pieces). v.sizes ++ c.args.size ∷ []) c.self.view_is
