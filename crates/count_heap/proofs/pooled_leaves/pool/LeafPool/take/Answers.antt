use Rattle.std.proofs.Common.{◌≡◌, ℕ, ◌<◌, ◌≤◌, Some, length, map, set, refl, sym, ap, ◌∙◌, subst, arith}
use Rattle.std.specs.Prelude.{replicate}
use Rattle.std.specs.Vec.{with_items}
use Rattle.std.proofs.lemmas.List.{with_items_is}
use Rattle.holder_model_values.specs.declared.run_values.leaf.Leaf.TheVariants.{Blank}
use Rattle.count_heap.specs.PooledLeaves.Pieces.{HasFree, IsChanged, Pieces, put_leaves}
use Rattle.count_heap.specs.PooledLeaves.inner.Layout.{AreLaidOut, IsPool, depth_at, first_at, given_out, piece_size, pieces_in, size_at}
use Rattle.count_heap.proofs.PooledLeaves.Freed.{at_same, first_of, piece_at, size_of}
use Rattle.count_heap.proofs.PooledLeaves.Pools.{has_free, no_free, set_laid, sizes_set, taken_view}
use Rattle.count_heap.proofs.pooled_leaves.pool.LeafPool.take.Goals as goal

pub invariant_of-self : goal.invariant_of-self
invariant_of-self c =
    let leaves = c.self.inside.leaves.items in
    let pieces = c.self.inside.pieces.items in
    let p = c.in-Some.p in
    let there : p < length pieces = subst (λ ps. p < length ps) c.deref_mut-2.ensures.value c.in-Some.ensures.there in
    let free : 1 ≤ depth_at pieces p = subst (λ ps. 1 ≤ depth_at ps p) c.deref_mut-2.ensures.value c.in-Some.ensures.free in
    let out = set pieces p (given_out (piece_at pieces p)) in
    let taken : c.pop.new.pieces ≡ set pieces p (given_out (piece_at pieces p)) =
    c.in-Some.ensures.taken ∙ ap (λ ps. set ps p (given_out (piece_at ps p))) c.deref_mut-2.ensures.value in
    let kept : length c.pop.new.pieces ≡ length pieces = c.pop.auto.pieces ∙ ap (λ xs. length xs) c.deref_mut-2.ensures.value in
    let kept_tops : length c.pop.new.tops ≡ length c.self.inside.tops.items = c.pop.auto.tops ∙ ap (λ xs. length xs) c.deref_mut.ensures.value in
    let kept_leaves : length c.blank_part.new.leaves ≡ length leaves = c.blank_part.auto.leaves ∙ ap (λ xs. length xs) c.deref_mut-in-Some.ensures.value in
    let items = with_items_is c.self.inside.pieces c.pop.new.pieces (omega arith) in
    let items_tops = with_items_is c.self.inside.tops c.pop.new.tops (omega arith) in
    let items_leaves = with_items_is c.self.inside.leaves c.blank_part.new.leaves (omega arith) in
    let laid : AreLaidOut (length c.pop.new.pieces) (length c.blank_part.new.leaves) (first_at c.pop.new.pieces) (size_at c.pop.new.pieces) =
    subst (λ ps. AreLaidOut (length ps) (length c.blank_part.new.leaves) (first_at ps) (size_at ps)) (sym taken)
    (subst (λ n. AreLaidOut (length (set pieces p (given_out (piece_at pieces p)))) n (first_at (set pieces p (given_out (piece_at pieces p)))) (size_at (set pieces p (given_out
    (piece_at pieces p))))) (sym kept_leaves)
    (set_laid leaves pieces c.self.invariant.laid_out p (given_out (piece_at pieces p)) there refl refl)) in
    subst (λ ls. IsPool ls (with_items c.self.inside.pieces c.pop.new.pieces).items (with_items c.self.inside.tops c.pop.new.tops).items) (sym items_leaves)
    (subst (λ ps. IsPool c.blank_part.new.leaves ps (with_items c.self.inside.tops c.pop.new.tops).items) (sym items)
    (subst (λ ts. IsPool c.blank_part.new.leaves c.pop.new.pieces ts) (sym items_tops)
    (record { laid_out = laid; listed = c.in-Some.ensures.listed })))

pub returns-in-Some-clause-ok : goal.returns-in-Some-clause-ok
returns-in-Some-clause-ok c =
    let leaves = c.self.inside.leaves.items in
    let pieces = c.self.inside.pieces.items in
    let p = c.in-Some.p in
    let there : p < length pieces = subst (λ ps. p < length ps) c.deref_mut-2.ensures.value c.in-Some.ensures.there in
    let free : 1 ≤ depth_at pieces p = subst (λ ps. 1 ≤ depth_at ps p) c.deref_mut-2.ensures.value c.in-Some.ensures.free in
    let size : size_at pieces p ≡ c.args.size = subst (λ ps. size_at ps p ≡ c.args.size) c.deref_mut-2.ensures.value c.in-Some.ensures.size in
    let taken : c.pop.new.pieces ≡ set pieces p (given_out (piece_at pieces p)) =
    c.in-Some.ensures.taken ∙ ap (λ ps. set ps p (given_out (piece_at ps p))) c.deref_mut-2.ensures.value in
    let kept : length c.pop.new.pieces ≡ length pieces = c.pop.auto.pieces ∙ ap (λ xs. length xs) c.deref_mut-2.ensures.value in
    let kept_leaves : length c.blank_part.new.leaves ≡ length leaves = c.blank_part.auto.leaves ∙ ap (λ xs. length xs) c.deref_mut-in-Some.ensures.value in
    let items = with_items_is c.self.inside.pieces c.pop.new.pieces (omega arith) ∙ taken in
    let same = at_same pieces p (given_out (piece_at pieces p)) there in
    let first_is : first_at c.deref.result.now p ≡ first_at pieces p = ap (λ ps. first_at ps p) (c.deref.ensures.value ∙ items) ∙ ap first_of same in
    let size_is : size_at c.deref.result.now p ≡ size_at pieces p = ap (λ ps. size_at ps p) (c.deref.ensures.value ∙ items) ∙ ap size_of same in
    let after : c.blank_part.new.leaves ≡ put_leaves (first_at pieces p) (replicate (size_at pieces p) Blank) leaves =
    c.blank_part.ensures ∙ ap (λ n. put_leaves n (replicate (size_at c.deref.result.now p) Blank) c.deref_mut-in-Some.result.now) first_is
    ∙ ap (λ n. put_leaves (first_at pieces p) (replicate n Blank) c.deref_mut-in-Some.result.now) size_is
    ∙ ap (put_leaves (first_at pieces p) (replicate (size_at pieces p) Blank)) c.deref_mut-in-Some.ensures.value in
    let items_leaves = with_items_is c.self.inside.leaves c.blank_part.new.leaves (omega arith) ∙ after in
    subst (λ v. IsChanged v (pieces_in (with_items c.self.inside.leaves c.blank_part.new.leaves).items (with_items c.self.inside.pieces c.pop.new.pieces).items) p (Some
    (replicate c.args.size Blank))) c.self.view_is
    (subst (λ ls. IsChanged (pieces_in leaves pieces) (pieces_in ls (with_items c.self.inside.pieces c.pop.new.pieces).items) p (Some (replicate c.args.size Blank))) (sym items_leaves)
    (subst (λ ps. IsChanged (pieces_in leaves pieces) (pieces_in (put_leaves (first_at pieces p) (replicate (size_at pieces p) Blank) leaves) ps) p (Some (replicate c.args.size Blank))) (sym items)
    (subst (λ n. IsChanged (pieces_in leaves pieces) (pieces_in (put_leaves (first_at pieces p) (replicate (size_at pieces p) Blank) leaves) (set pieces p (given_out (piece_at pieces p)))) p (Some
    (replicate n Blank))) size
    (taken_view leaves pieces c.self.invariant.laid_out p there free))))

pub returns-in-Some-clause-free : goal.returns-in-Some-clause-free
returns-in-Some-clause-free c = λ _.
    let pieces = c.self.inside.pieces.items in
    let p = c.in-Some.p in
    let taken : c.pop.new.pieces ≡ set pieces p (given_out (piece_at pieces p)) =
    c.in-Some.ensures.taken ∙ ap (λ ps. set ps p (given_out (piece_at ps p))) c.deref_mut-2.ensures.value in
    let kept : length c.pop.new.pieces ≡ length pieces = c.pop.auto.pieces ∙ ap (λ xs. length xs) c.deref_mut-2.ensures.value in
    let items = with_items_is c.self.inside.pieces c.pop.new.pieces (omega arith) ∙ taken in
    (refl, ap (map piece_size) items ∙ sizes_set pieces p (given_out (piece_at pieces p)) refl ∙ ap (λ (v : Pieces). v.sizes) c.self.view_is)

pub returns-in-Some-clause-grown : goal.returns-in-Some-clause-grown
returns-in-Some-clause-grown c = λ none.
    let leaves = c.self.inside.leaves.items in
    let pieces = c.self.inside.pieces.items in
    let p = c.in-Some.p in
    let there : p < length pieces = subst (λ ps. p < length ps) c.deref_mut-2.ensures.value c.in-Some.ensures.there in
    let free : 1 ≤ depth_at pieces p = subst (λ ps. 1 ≤ depth_at ps p) c.deref_mut-2.ensures.value c.in-Some.ensures.free in
    let size : size_at pieces p ≡ c.args.size = subst (λ ps. size_at ps p ≡ c.args.size) c.deref_mut-2.ensures.value c.in-Some.ensures.size in
    absurd (none (subst (λ v. HasFree v c.args.size) c.self.view_is (has_free leaves pieces p c.args.size there size free)))

pub returns-in-None-clause-free : goal.returns-in-None-clause-free
returns-in-None-clause-free c = λ free.
    let pieces = c.self.inside.pieces.items in
    let none : (p : ℕ) → p < length pieces → size_at pieces p ≡ c.args.size → depth_at pieces p ≡ 0 =
    subst (λ ps. (p : ℕ) → p < length ps → size_at ps p ≡ c.args.size → depth_at ps p ≡ 0) c.deref_mut-2.ensures.value (c.in-None.ensures.none refl) in
    absurd (no_free c.self.inside.leaves.items pieces c.args.size none (subst (λ v. HasFree v c.args.size) (sym c.self.view_is) free))
