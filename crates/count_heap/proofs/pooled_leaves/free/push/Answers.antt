use Rattle.std.proofs.Common.{◌≡◌, ◌+◌, suc, sym, subst, arith}
use Rattle.std.specs.Prelude.{set, slice_index_or}
use Rattle.count_heap.specs.PooledLeaves.inner.Layout.{AreFreeListed, given_back, no_piece, size_at, top_at}
use Rattle.count_heap.proofs.PooledLeaves.Freed.{pushed_listed, shallow}
use Rattle.count_heap.proofs.pooled_leaves.free.push.Goals as goal

pub overflow_add-piece : goal.overflow_add-piece
overflow_add-piece c = omega (arith, shallow c.args.pieces.now c.args.tops.now c.requires.listed c.args.p c.requires.there c.requires.taken, c.requires.listed.few, c.level_at-depth.ensures)

pub returns-clause-listed : goal.returns-clause-listed
returns-clause-listed c =
    let pieces = c.args.pieces.now in
    let tops = c.args.tops.now in
    let size = size_at pieces c.args.p in
    let one : suc c.args.p ≡ c.args.p + 1 = omega arith in
    subst (λ d. AreFreeListed (set pieces c.args.p (record (slice_index_or pieces c.args.p no_piece) { depth = d + 1; next = top_at tops size })) (set tops size (c.args.p + 1)))
    (sym c.level_at-depth.ensures)
    (subst (λ n. AreFreeListed (set pieces c.args.p (given_back pieces tops (slice_index_or pieces c.args.p no_piece))) (set tops size n)) one
    (pushed_listed pieces tops c.requires.listed c.args.p c.requires.there c.requires.taken))
