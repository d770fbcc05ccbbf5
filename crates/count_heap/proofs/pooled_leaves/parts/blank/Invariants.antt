use Rattle.std.proofs.Common.{◌≡◌, take}
use Rattle.std.specs.Prelude.{replicate}
use Rattle.holder_model_values.specs.declared.run_values.leaf.Leaf.TheVariants.{Blank}
use Rattle.count_heap.proofs.pooled_leaves.parts.blank.Given as goal

abbrev pub invariant-loop-leaf : goal.invariant-loop-leaf
invariant-loop-leaf l = take l.leaf-index l.leaves ≡ replicate l.leaf-index Blank
