use Rattle.std.proofs.Common.{◌≡◌, ◌-◌, ◌<◌, length, suc, arith}
use Rattle.count_heap.specs.PooledLeaves.inner.Layout.{top_at}
use Rattle.count_heap.proofs.PooledLeaves.Freed.{none_free, popped_listed}
use Rattle.count_heap.proofs.pooled_leaves.free.pop.Goals as goal

pub returns-then-size-tops-clause-none : goal.returns-then-size-tops-clause-none
returns-then-size-tops-clause-none c = λ _ p lt size. absurd (omega (arith, c.requires.sizes p lt, size))

pub returns-then-top-eq0-clause-none : goal.returns-then-top-eq0-clause-none
returns-then-top-eq0-clause-none c =
    let empty : top_at c.args.tops.now c.args.size ≡ 0 = omega arith in
    λ _ p lt size. none_free c.args.pieces.now c.args.tops.now c.requires c.args.size empty p lt size

pub returns-clause-listed : goal.returns-clause-listed
returns-clause-listed c =
    let top : top_at c.args.tops.now c.args.size ≡ suc (top_at c.args.tops.now c.args.size - 1) = omega arith in
    let within : c.args.size < length c.args.tops.now = omega arith in
    popped_listed c.args.pieces.now c.args.tops.now c.requires c.args.size (top_at c.args.tops.now c.args.size - 1) within top
