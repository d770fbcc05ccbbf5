use Rattle.std.proofs.Common.{◌≡◌, ◌+◌, ◌≤◌, is_some, true, length, sym, ap, ◌∙◌, subst, arith}
use Rattle.std.specs.Prelude.{option_map, IfSome}
use Rattle.std.specs.Vec.{with_items}
use Rattle.std.proofs.lemmas.List.{with_items_is}
use Rattle.count_heap.specs.PooledLeaves.Pieces.{IsChanged, piece_in, put_leaves}
use Rattle.count_heap.specs.PooledLeaves.inner.Layout.{first_at, leaves_of, pieces_in, size_at}
use Rattle.count_heap.proofs.PooledLeaves.Freed.{piece_at}
use Rattle.count_heap.proofs.PooledLeaves.Pools.{is_out, put_view, seen_out, size_is}
use Rattle.count_heap.proofs.pooled_leaves.pool.LeafPool.write.Goals as goal

pub returns-clause-written : goal.returns-clause-written
returns-clause-written c =
    let leaves = c.self.inside.leaves.items in
    let pieces = c.self.inside.pieces.items in
    let laid = c.self.invariant.laid_out in
    let out = is_out leaves pieces c.args.p (subst (λ v. is_some (piece_in v c.args.p) ≡ true) (sym c.self.view_is) c.requires.there) in
    let within : IfSome (piece_in (pieces_in leaves pieces) c.args.p) (λ old. c.args.from + length c.args.leaves.now ≤ length old) =
    subst (λ v. IfSome (piece_in v c.args.p) (λ old. c.args.from + length c.args.leaves.now ≤ length old)) (sym c.self.view_is) c.requires.within in
    let held : c.args.from + length c.args.leaves.now ≤ length (leaves_of leaves (piece_at pieces c.args.p)) =
    subst (λ o. IfSome o (λ old. c.args.from + length c.args.leaves.now ≤ length old)) (seen_out leaves pieces c.args.p out.0 out.1) within in
    let fits : c.args.from + length c.args.leaves.now ≤ size_at pieces c.args.p = omega (arith, size_is leaves pieces laid c.args.p out.0) in
    let after : c.put_part.new.leaves ≡ put_leaves (first_at pieces c.args.p + c.args.from) c.args.leaves.now leaves =
    c.put_part.ensures ∙ ap (λ ps. put_leaves (first_at ps c.args.p + c.args.from) c.args.leaves.now c.deref_mut.result.now) c.deref.ensures.value
    ∙ ap (put_leaves (first_at pieces c.args.p + c.args.from) c.args.leaves.now) c.deref_mut.ensures.value in
    let kept : length c.put_part.new.leaves ≡ length leaves = c.put_part.auto.leaves ∙ ap (λ xs. length xs) c.deref_mut.ensures.value in
    let items = with_items_is c.self.inside.leaves c.put_part.new.leaves (omega arith) ∙ after in
    subst (λ v. IsChanged v (pieces_in (with_items c.self.inside.leaves c.put_part.new.leaves).items pieces) c.args.p (option_map (put_leaves c.args.from c.args.leaves.now)
    (piece_in v c.args.p))) c.self.view_is
    (subst (λ xs. IsChanged (pieces_in leaves pieces) (pieces_in xs pieces) c.args.p (option_map (put_leaves c.args.from c.args.leaves.now) (piece_in (pieces_in leaves pieces) c.args.p))) (sym items)
    (put_view leaves pieces laid c.args.p c.args.from c.args.leaves.now out.0 fits out.1))
