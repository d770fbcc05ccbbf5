-- The leaves of an object after a field was written.
use Rattle.std.specs.Prelude.{◌+◌, List, [], ◌∷◌}
use Rattle.holder_model_values.specs.declared.run_values.leaf.Leaf.{Leaf}
use Rattle.holder_model_values.specs.declared.run_values.leaf.Leaf.TheVariants.{Tag}
use Rattle.count_heap.specs.PooledLeaves.Pieces.{put_leaves}
use Rattle.count_heap.specs.declared.layouts_by_class.field_place.FieldPlace.{FieldPlace}

abbrev pub written : FieldPlace → List Leaf → List Leaf → List Leaf
written p leaves old = put_leaves (p.from + 1) leaves (put_leaves p.from (Tag 1 ∷ []) old)
