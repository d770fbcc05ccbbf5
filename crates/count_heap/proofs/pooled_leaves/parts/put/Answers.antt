use Rattle.std.proofs.Common.{◌≡◌, ◌<◌, ◌≤◌, List, [], ◌∷◌, length, refl, sym, ap, ◌∙◌, arith}
use Rattle.std.specs.Prelude.{pos, slice_index_or}
use Rattle.holder_model_values.specs.declared.run_values.leaf.Leaf.{Leaf}
use Rattle.holder_model_values.specs.declared.run_values.leaf.Leaf.TheVariants.{Int}
use Rattle.count_heap.specs.PooledLeaves.Pieces.{put_leaves}
use Rattle.count_heap.proofs.PooledLeaves.ListParts.{set_is_put}
use Rattle.count_heap.proofs.pooled_leaves.parts.put.Goals as goal

only : (xs : List Leaf) (d : Leaf) → 1 ≤ length xs → length xs < 2 → xs ≡ slice_index_or xs 0 d ∷ []
only [] d some few = absurd (omega arith)
only (x ∷ []) d some few = refl
only (x ∷ y ∷ xs) d some few = absurd (omega arith)

pub returns-in-len1 : goal.returns-in-len1
returns-in-len1 c =
    let one = only c.args.new.now (Int (pos 0)) c.in-len1.len_at_least c.in-len1.len_below in
    let within : c.args.at < length c.args.leaves.now = omega arith in
    set_is_put c.args.leaves.now c.args.at (slice_index_or c.args.new.now 0 (Int (pos 0))) within
    ∙ ap (λ ys. put_leaves c.args.at ys c.args.leaves.now) (sym one)
