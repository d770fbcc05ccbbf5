use Rattle.std.proofs.Common.{◌≡◌, ◌≤◌, None, is_some, true, length, map, set, refl, sym, ap, ◌∙◌, subst, arith}
use Rattle.std.specs.Vec.{with_items}
use Rattle.std.proofs.lemmas.List.{with_items_is}
use Rattle.count_heap.specs.PooledLeaves.Pieces.{IsChanged, Pieces, piece_in}
use Rattle.count_heap.specs.PooledLeaves.inner.Layout.{AreLaidOut, IsPool, first_at, given_back, piece_size, pieces_in, size_at}
use Rattle.count_heap.proofs.PooledLeaves.Freed.{piece_at}
use Rattle.count_heap.proofs.PooledLeaves.Pools.{freed_view, is_out, set_laid, sizes_set}
use Rattle.count_heap.proofs.pooled_leaves.pool.LeafPool.give_back.Goals as goal

pub invariant_of-self : goal.invariant_of-self
invariant_of-self c =
    let leaves = c.self.inside.leaves.items in
    let pieces = c.self.inside.pieces.items in
    let tops = c.self.inside.tops.items in
    let out = is_out leaves pieces c.args.p (subst (λ v. is_some (piece_in v c.args.p) ≡ true) (sym c.self.view_is) c.requires) in
    let freed : c.push.new.pieces ≡ set pieces c.args.p (given_back pieces tops (piece_at pieces c.args.p)) =
    c.push.ensures.freed ∙ ap (λ ps. set ps c.args.p (given_back ps c.deref_mut.result.now (piece_at ps c.args.p))) c.deref_mut-2.ensures.value
    ∙ ap (λ ts. set pieces c.args.p (given_back pieces ts (piece_at pieces c.args.p))) c.deref_mut.ensures.value in
    let kept : length c.push.new.pieces ≡ length pieces = c.push.auto.pieces ∙ ap (λ xs. length xs) c.deref_mut-2.ensures.value in
    let kept_tops : length c.push.new.tops ≡ length tops = c.push.auto.tops ∙ ap (λ xs. length xs) c.deref_mut.ensures.value in
    let items = with_items_is c.self.inside.pieces c.push.new.pieces (omega arith) in
    let items_tops = with_items_is c.self.inside.tops c.push.new.tops (omega arith) in
    subst (λ ps. IsPool leaves ps (with_items c.self.inside.tops c.push.new.tops).items) (sym items)
    (subst (λ ts. IsPool leaves c.push.new.pieces ts) (sym items_tops)
    (record {
      laid_out =
          subst (λ ps. AreLaidOut (length ps) (length leaves) (first_at ps) (size_at ps)) (sym freed)
          (set_laid leaves pieces c.self.invariant.laid_out c.args.p (given_back pieces tops (piece_at pieces c.args.p)) out.0 refl refl);
      listed = c.push.ensures.listed;
    }))

pub returns-clause-freed : goal.returns-clause-freed
returns-clause-freed c =
    let leaves = c.self.inside.leaves.items in
    let pieces = c.self.inside.pieces.items in
    let tops = c.self.inside.tops.items in
    let out = is_out leaves pieces c.args.p (subst (λ v. is_some (piece_in v c.args.p) ≡ true) (sym c.self.view_is) c.requires) in
    let freed : c.push.new.pieces ≡ set pieces c.args.p (given_back pieces tops (piece_at pieces c.args.p)) =
    c.push.ensures.freed ∙ ap (λ ps. set ps c.args.p (given_back ps c.deref_mut.result.now (piece_at ps c.args.p))) c.deref_mut-2.ensures.value
    ∙ ap (λ ts. set pieces c.args.p (given_back pieces ts (piece_at pieces c.args.p))) c.deref_mut.ensures.value in
    let kept : length c.push.new.pieces ≡ length pieces = c.push.auto.pieces ∙ ap (λ xs. length xs) c.deref_mut-2.ensures.value in
    let items = with_items_is c.self.inside.pieces c.push.new.pieces (omega arith) ∙ freed in
    let deep : 1 ≤ (given_back pieces tops (piece_at pieces c.args.p)).depth = omega arith in
    subst (λ v. IsChanged v (pieces_in leaves (with_items c.self.inside.pieces c.push.new.pieces).items) c.args.p None) c.self.view_is
    (subst (λ ps. IsChanged (pieces_in leaves pieces) (pieces_in leaves ps) c.args.p None) (sym items)
    (freed_view leaves pieces c.self.invariant.laid_out c.args.p (given_back pieces tops (piece_at pieces c.args.p)) out.0 refl refl deep))

pub returns-clause-sizes : goal.returns-clause-sizes
returns-clause-sizes c =
    let pieces = c.self.inside.pieces.items in
    let tops = c.self.inside.tops.items in
    let freed : c.push.new.pieces ≡ set pieces c.args.p (given_back pieces tops (piece_at pieces c.args.p)) =
    c.push.ensures.freed ∙ ap (λ ps. set ps c.args.p (given_back ps c.deref_mut.result.now (piece_at ps c.args.p))) c.deref_mut-2.ensures.value
    ∙ ap (λ ts. set pieces c.args.p (given_back pieces ts (piece_at pieces c.args.p))) c.deref_mut.ensures.value in
    let kept : length c.push.new.pieces ≡ length pieces = c.push.auto.pieces ∙ ap (λ xs. length xs) c.deref_mut-2.ensures.value in
    let items = with_items_is c.self.inside.pieces c.push.new.pieces (omega arith) ∙ freed in
    ap (map piece_size) items ∙ sizes_set pieces c.args.p (given_back pieces tops (piece_at pieces c.args.p)) refl ∙ ap (λ (v : Pieces). v.sizes) c.self.view_is
