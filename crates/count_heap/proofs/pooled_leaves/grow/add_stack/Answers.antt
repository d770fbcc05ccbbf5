use Rattle.std.proofs.Common.{◌+◌, ◌-◌, ◌++◌, ℕ, sym, ap, ◌∙◌, subst, arith}
use Rattle.std.specs.Prelude.{replicate}
use Rattle.std.specs.Vec.{vec_len}
use Rattle.std.proofs.lemmas.List.{take_all}
use Rattle.count_heap.specs.PooledLeaves.inner.Layout.{AreFreeListed}
use Rattle.count_heap.proofs.PooledLeaves.Freed.{longer_listed}
use Rattle.count_heap.proofs.pooled_leaves.grow.add_stack.Goals as goal

pub returns-in_ok-resize-clause-listed : goal.returns-in_ok-resize-clause-listed
returns-in_ok-resize-clause-listed c =
    let tops = c.args.tops.now.items in
    let count : ℕ = c.args.size + 1 - vec_len c.args.tops.now in
    let all = take_all (c.args.size + 1) tops (omega arith) in
    subst (λ xs. AreFreeListed c.args.pieces.now xs) (sym (c.in_ok-resize.ensures.items ∙ ap (λ xs. xs ++ replicate (c.args.size + 1 - vec_len c.args.tops.now) 0) all))
    (longer_listed c.args.pieces.now tops (c.args.size + 1 - vec_len c.args.tops.now) c.requires.listed)
